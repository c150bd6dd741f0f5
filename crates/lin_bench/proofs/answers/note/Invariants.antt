use Rattle.std.proofs.Common.{◌≡◌, ◌-◌, ◌≤◌, ◌++◌, drop, length, take}
use Rattle.lin_bench.specs.Rules.{noted_with}
use Rattle.lin_bench.proofs.answers.note.Given as goal

abbrev pub invariant-loop-index : goal.invariant-loop-index
invariant-loop-index l = record {
  within : l.index ≤ length l.all;
  same : noted_with l.all l.one ≡ take l.index l.all ++ noted_with (drop l.index l.all) l.one;
}

abbrev pub decreases-loop-index : goal.decreases-loop-index
decreases-loop-index l = length l.all - l.index
