use Rattle.std.proofs.Common.{◌≡◌, map, take}
use Rattle.lin_cluster.specs.Described.{described_place}
use Rattle.lin_cluster.proofs.described.frames.places_of.Given as goal

abbrev pub invariant-loop-one : goal.invariant-loop-one
invariant-loop-one l = l.places.items ≡ map (described_place l.signals) (take l.one-index l.placed)
