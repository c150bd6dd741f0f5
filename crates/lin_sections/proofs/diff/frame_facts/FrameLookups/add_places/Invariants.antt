use Rattle.std.proofs.Common.{◌≡◌, ◌++◌, map, take}
use Rattle.lin_sections.specs.NewNames.{renames_data}
use Rattle.lin_sections.specs.Things.{placed_fact}
use Rattle.lin_sections.proofs.diff.frame_facts.FrameLookups.add_places.Given as goal

abbrev pub invariant-loop-placed : goal.invariant-loop-placed
invariant-loop-placed l =
    l.found.items ≡ l.initial.found.items ++ map (placed_fact l.self.facts.now.ldf.description.now (renames_data l.self.renames.now)) (take l.placed-index l.all)
