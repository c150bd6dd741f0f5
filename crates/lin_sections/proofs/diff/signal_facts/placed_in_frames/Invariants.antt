use Rattle.std.proofs.Common.{flat_map, take}
use Rattle.std.specs.Prelude.{filter, not}
use Rattle.lin_sections.specs.NewNames.{has_in, renames_data}
use Rattle.lin_sections.specs.Renames.{places_in, all_signal_names}
use Rattle.lin_sections.specs.SignalPlaces.{ArePlacesOf}
use Rattle.lin_sections.specs.SortedTexts.{sorted_texts}
use Rattle.lin_sections.specs.Things.{compared_data}
use Rattle.lin_sections.proofs.diff.signal_facts.placed_in_frames.Given as goal

abbrev pub invariant-loop-frame : goal.invariant-loop-frame
invariant-loop-frame l =
    ArePlacesOf (filter (λ n. not (has_in l.others.map n)) (all_signal_names (compared_data l.facts.ldf)))
    (λ q. sorted_texts (flat_map (places_in (renames_data l.renames) q) (take l.frame-index l.facts.ldf.description.now.frames))) l.places
