-- The differences between two LDFs, as lines: class, place in the old file, place in the new file, subject, old value
-- and new value.
use Rattle.std.specs.Prelude.{ℕ, ◌++◌, Bool, List, [], ◌∷◌, codes, filter, flat_map, Option}
use Rattle.std.specs.Fmt.{decimal}
use Rattle.std.specs.Option.{option_map_or}
use Rattle.lin_parts.specs.declared.place.Location.{Location}
use Rattle.lin_sections.specs.Differences.{differences_data, DifferenceData}
use Rattle.lin_sections.specs.declared.diff.difference.Difference.{Difference}
use Rattle.lin_sections.specs.Facts.{class_word, kind_word}
use Rattle.lin_sections.specs.declared.diff.fact.Class.{Class}
use Rattle.lin_sections.specs.declared.diff.fact.Class.TheVariants.{Bytes, Timing, Meaning, Compatible, Names}
use Rattle.lin_sections.specs.declared.diff.difference_lines.Classes.{Classes}

abbrev pub lists_class : Classes → Class → Bool
lists_class classes Bytes = classes.bytes
lists_class classes Timing = classes.timing
lists_class classes Meaning = classes.meaning
lists_class classes Compatible = classes.compatible
lists_class classes Names = classes.names

-- a word after a space
abbrev pub after_space : List ℕ → List ℕ
after_space word = 32 ∷ word

-- a place in a file, and `-` for none
abbrev pub file_place : List ℕ → Option Location → List ℕ
file_place file place =
    option_map_or (λ p. file ++ 58 ∷ (decimal p.line ++ 58 ∷ decimal p.column)) place (codes "-")

-- a word of a subject, after a space; nothing if it's empty
abbrev pub part : List ℕ → List ℕ
part [] = []
part (b ∷ bs) = after_space (b ∷ bs)

-- a value, and `-` for none
abbrev pub fact_value_word : Option (List ℕ) → List ℕ
fact_value_word value = option_map_or (λ v. v) value (codes "-")

abbrev pub difference_line : List ℕ → List ℕ → DifferenceData → List ℕ
difference_line old_file new_file d =
    class_word d.class
    ++ (after_space (file_place old_file d.old_place)
    ++ (after_space (file_place new_file d.new_place)
    ++ (part (kind_word d.kind) ++ (part d.name ++ (part d.label ++ (part d.entry
    ++ (58 ∷ (after_space (fact_value_word d.old)
    ++ (codes " ->" ++ (after_space (fact_value_word d.new) ++ 10 ∷ []))))))))))

abbrev pub difference_lines : List ℕ → List ℕ → Classes → List DifferenceData → List ℕ
difference_lines old_file new_file classes ds =
    flat_map (difference_line old_file new_file) (filter (λ d. lists_class classes d.class) ds)

abbrev pub differences_text : List ℕ → List ℕ → Classes → List Difference → List ℕ
differences_text old_file new_file classes ds =
    difference_lines old_file new_file classes (differences_data ds)
