use Rattle.std.proofs.Common.{◌≡◌, false, sym}
use Rattle.std.specs.List.{list_any}
use Rattle.lin_bench.specs.Faults.{is_struck}
use Rattle.lin_bench.proofs.FaultSteps.{none-struck}
use Rattle.lin_bench.proofs.faults.strike.Goals as goal

pub returns-else-is_changed-clause-faults : goal.returns-else-is_changed-clause-faults
returns-else-is_changed-clause-faults c =
    let none : list_any (is_struck c.args.slot c.args.kind) c.args.faults.now ≡ false = cc in
    sym (none-struck c.args.slot c.args.kind c.args.faults.now none)
