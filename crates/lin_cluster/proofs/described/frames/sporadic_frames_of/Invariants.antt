use Rattle.std.proofs.Common.{◌≡◌, ◌≤◌, length, map, take}
use Rattle.std.specs.Prelude.{All}
use Rattle.lin_parts.specs.declared.description.Sporadic.{Sporadic}
use Rattle.lin_cluster.specs.Described.{described_sporadic}
use Rattle.lin_cluster.proofs.described.frames.sporadic_frames_of.Given as goal

abbrev pub invariant-loop-one : goal.invariant-loop-one
invariant-loop-one l = (l.made.items ≡ map (described_sporadic l.d) (take l.one-index l.sporadic)) × All (λ (x : Sporadic). 1 ≤ length x.members) (take l.one-index l.sporadic)
