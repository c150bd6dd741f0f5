use Rattle.std.proofs.Common.{◌≡◌, map}
use Rattle.lin_bench.specs.Meanings.{judgement_meaning}
use Rattle.lin_bench.proofs.got_meanings.told_meanings.Given as goal

abbrev pub invariant-loop-judgement : goal.invariant-loop-judgement
invariant-loop-judgement l = l.all.items ≡ map (judgement_meaning l.coded) l.yielded
