-- The lines of differences, one by one.
use Rattle.std.proofs.Common.{◌≡◌, ◌∙◌, ◌+◌, ◌<◌, ℕ, List, [], ◌∷◌, ◌++◌, length, get_or, take, flat_map, ap}
use Rattle.std.specs.Prelude.{filter}
use Rattle.std.proofs.lemmas.List.{map-append, take_more}
use Rattle.std.proofs.lemmas.List.Concat.{flat_map-append}
use Rattle.std.proofs.lemmas.List.Elements.{filter-append}
use Rattle.lin_sections.specs.Differences.{difference_data, differences_data, DifferenceData}
use Rattle.lin_sections.specs.declared.diff.difference.Difference.{Difference}
use Rattle.lin_sections.specs.ListedDifferences.{difference_line, difference_lines, lists_class}
use Rattle.lin_sections.specs.declared.diff.difference_lines.Classes.{Classes}

both-lines : (old_file new_file : List ℕ) (classes : Classes) (ds es : List DifferenceData)
    → difference_lines old_file new_file classes (ds ++ es)
    ≡ difference_lines old_file new_file classes ds ++ difference_lines old_file new_file classes es
both-lines old_file new_file classes ds es =
    ap (flat_map (difference_line old_file new_file)) (filter-append (λ (d : DifferenceData). lists_class classes d.class) ds es)
    ∙ flat_map-append (difference_line old_file new_file) (filter (λ d. lists_class classes d.class) ds) (filter (λ d. lists_class classes d.class) es)

-- the line of one difference more
pub lines-more : (old_file new_file : List ℕ) (classes : Classes) (ds : List Difference) (i : ℕ) (d : Difference) → i < length ds
    → difference_lines old_file new_file classes (differences_data (take (i + 1) ds))
    ≡ difference_lines old_file new_file classes (differences_data (take i ds))
    ++ difference_lines old_file new_file classes (difference_data (get_or ds i d) ∷ [])
lines-more old_file new_file classes ds i d lt =
    ap (λ es. difference_lines old_file new_file classes (differences_data es)) (take_more ds i d lt)
    ∙ ap (difference_lines old_file new_file classes) (map-append difference_data (take i ds) (get_or ds i d ∷ []))
    ∙ both-lines old_file new_file classes (differences_data (take i ds)) (difference_data (get_or ds i d) ∷ [])
