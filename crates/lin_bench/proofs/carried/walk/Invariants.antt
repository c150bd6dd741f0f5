use Rattle.std.proofs.Common.{◌≤◌, reverse, take}
use Rattle.lin_bench.specs.Carried.{KeepsOpenSlot}
use Rattle.lin_bench.proofs.carried.walk.Given as goal

abbrev pub invariant-loop-index : goal.invariant-loop-index
invariant-loop-index l = record {
  within : l.index ≤ l.end;
  kept : KeepsOpenSlot l.slot (reverse (take l.index l.log.entries));
}
