use Rattle.std.proofs.Common.{List, ℕ, map, take}
use Rattle.std.specs.Prelude.{filter, fold}
use Rattle.lin_sections.specs.SignalPlaces.{ArePlacesOf}
use Rattle.lin_sections.specs.SortedTexts.{insert_text}
use Rattle.lin_sections.specs.NewNames.{name_in, renames_data}
use Rattle.lin_sections.specs.Renames.{place_text}
use Rattle.std.specs.Str.{bytes_eq}
use Rattle.lin_sections.proofs.diff.signal_facts.Places.add_frame.Given as goal

abbrev pub invariant-loop-placed : goal.invariant-loop-placed
invariant-loop-placed l =
    (names : List (List ℕ)) (places : List ℕ → List (List ℕ)) → ArePlacesOf names places l.fn.self
    → ArePlacesOf names (λ q. fold insert_text (places q) (map (place_text (name_in (renames_data l.renames).frames l.frame.name.text)) (filter (λ p. bytes_eq p.signal.text q) (take l.placed-index l.frame.placed)))) l.self
