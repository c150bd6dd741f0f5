use Rattle.std.proofs.Common.{◌≡◌, ◌++◌, length, take}
use Rattle.lin_bench.specs.Played.{nothing_expected}
use Rattle.lin_bench.proofs.playing.add_silent.Given as goal

-- the judgements on the lines so far were added
abbrev pub invariant-loop-place : goal.invariant-loop-place
invariant-loop-place l = l.judgements.items ≡ l.fn.judgements.items ++ nothing_expected (length l.log.entries) (take l.place-index l.silent)
