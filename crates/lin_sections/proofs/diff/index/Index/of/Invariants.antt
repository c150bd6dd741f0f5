use Rattle.std.proofs.Common.{map, take}
use Rattle.lin_sections.specs.Numbering.{ArePlaces}
use Rattle.lin_sections.proofs.diff.index.Index.of.Given as goal

abbrev pub invariant-loop-place : goal.invariant-loop-place
invariant-loop-place g l = ArePlaces (take l.place (map g.T.Identified.id_of l.all)) l.index.map
