use Rattle.std.proofs.Common.{◌∙◌, ap, sym}
use Rattle.std.specs.Prelude.{is_some}
use Rattle.lin_core.specs.Core.{past_of}
use Rattle.lin_bench.proofs.SlotSteps.{can-open}
use Rattle.lin_bench.proofs.slot_runs.is_at_limit.Goals as goal

pub returns-then-left-eq0 : goal.returns-then-left-eq0
returns-then-left-eq0 c =
    let core = c.args.core.now in
    rw c.if-left-eq0.true (can-open core.cluster core.opening core.capacity (past_of core) c.is_none.result (ap is_some (sym c.refusal_of.ensures) ∙ c.is_none.ensures))
