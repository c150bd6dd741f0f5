use Rattle.std.proofs.Common.{◌≡◌, ◌∙◌, ap}
use Rattle.std.specs.Prelude.{is_none}
use Rattle.lin_core.specs.Core.{past_of}
use Rattle.lin_bench.proofs.FaultSteps.{intact, none-asked}
use Rattle.lin_bench.proofs.faults.is_intact.Goals as goal

pub returns : goal.returns
returns c =
    (rw c.in_ok-no_bytes.ensures at (none-asked c.refusal_of.result c.is_none.result c.is_none.ensures ∙ ap is_none c.refusal_of.ensures))
    ∙ intact c.args.core.now.cluster c.args.core.now.capacity (past_of c.args.core.now)
