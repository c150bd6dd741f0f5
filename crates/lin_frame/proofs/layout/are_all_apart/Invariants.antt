use Rattle.std.proofs.Common.{◌≡◌, length}
use Rattle.lin_frame.specs.Bits.{all_apart}
use Rattle.lin_frame.proofs.layout.are_all_apart.Given as goal

abbrev pub invariant-loop-first : goal.invariant-loop-first
invariant-loop-first l = all_apart l.rest ≡ all_apart l.places

abbrev pub decreases-loop-first : goal.decreases-loop-first
decreases-loop-first l = length l.rest
