use Rattle.lin_core.specs.Core.{past_of}
use Rattle.std.proofs.Common.{◌∙◌, ◌++◌, ap, sym}
use Rattle.lin_bench.proofs.GivenUp.{no-limit, one-more-given}
use Rattle.lin_bench.proofs.Makes.{append-nothing}
use Rattle.lin_bench.proofs.ruled.RuledCore.give_up.Goals as goal

pub loop-node-preserved : goal.loop-node-preserved
loop-node-preserved c =
    one-more-given c.args.self.now.core.cluster (past_of c.args.self.now.core) c.args.self.now.rules c.loop-node.node c.args.steps.now.items c.loop-node.steps.items _
    c.loop-node.invariant c.in_ok-give_up_at.ensures

pub returns-then-has_no_limit : goal.returns-then-has_no_limit
returns-then-has_no_limit c =
    let none = no-limit c.args.self.now.core.cluster (past_of c.args.self.now.core) c.args.self.now.rules (sym c.has_no_limit.ensures ∙ c.if-has_no_limit.true) in
    sym (append-nothing c.args.steps.now.items) ∙ ap (λ l. c.args.steps.now.items ++ l) (sym none)
