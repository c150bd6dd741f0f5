use Rattle.std.proofs.Common.{◌≡◌, map, take}
use Rattle.lin_sections.specs.NewNames.{alone, has_in, keyed_name}
use Rattle.lin_sections.specs.Renames.{number_key}
use Rattle.lin_sections.proofs.diff.frame_facts.keys.Given as goal

abbrev pub invariant-loop-frame : goal.invariant-loop-frame
invariant-loop-frame l =
    map keyed_name l.keys.items ≡ alone (has_in l.others.map) (map (λ f. number_key f.name f.id) (take l.frame-index l.facts.ldf.description.now.frames))
