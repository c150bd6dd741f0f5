use Rattle.std.proofs.Common.{◌≡◌, ◌+◌, ◌-◌, length}
use Rattle.lin_bench.specs.Listed.{listed_in}
use Rattle.lin_bench.specs.declared.place.LinePlace.{LinePlace}
use Rattle.lin_bench.proofs.listed.ListedLines.reach.Given as goal

-- no line so far was listed
abbrev pub invariant-loop-alloc : goal.invariant-loop-alloc
invariant-loop-alloc l = (p : LinePlace) → listed_in l.self p ≡ listed_in l.fn.self p

abbrev pub decreases-loop-alloc : goal.decreases-loop-alloc
decreases-loop-alloc l = l.file + 1 - length l.self.files.items
