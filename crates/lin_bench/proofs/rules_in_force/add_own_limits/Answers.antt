use Rattle.std.proofs.Common.{◌∙◌, ◌++◌, sym, ap, append-nil}
use Rattle.lin_bench.specs.RulesInForce.{own_limit_lines_of}
use Rattle.lin_bench.proofs.RulesInForce.{lines-next, own-default, own-kept}
use Rattle.lin_bench.proofs.rules_in_force.add_own_limits.Goals as goal
use Rattle.lin_bench.proofs.rules_in_force.add_own_limits.Goals.{in-Some+in_ok-add_line, in_default}

pub loop-node-preserved : goal.loop-node-preserved
loop-node-preserved c =
    let cluster = c.args.cluster.now in
    let limits = c.args.limits.now in
    let at = c.loop-node in
    let of = own_limit_lines_of cluster limits in
    let first = c.args.lines.now.items in
    elim c.match-own_limit.branch [
      | in-Some+in_ok-add_line w ↦
          rw w.lines-is
          (lines-next of at.node first at.lines.items w.add_line.new.lines.items at.invariant
          (w.in_ok-add_line.ensures ∙ ap (λ l. at.lines.items ++ l) (own-kept cluster limits at.node w.in-Some.limit.now w.in-Some.ensures)))
      | in_default w ↦
          rw w.lines-is
          (lines-next of at.node first at.lines.items at.lines.items at.invariant
          (sym (append-nil at.lines.items) ∙ ap (λ l. at.lines.items ++ l) (own-default cluster limits at.node w.in_default.ensures)))
    ]
