-- Texts in the order of their bytes.
use Rattle.std.specs.Prelude.{ℕ, Bool, List, [], ◌∷◌, if◌then◌else◌, fold}
use Rattle.std.specs.Cmp.Lexicographic.{slice_cmp}
use Rattle.std.specs.Ordering.{is_le, nat_cmp}

abbrev pub is_at_most : List ℕ → List ℕ → Bool
is_at_most a b = is_le (slice_cmp nat_cmp a b)

-- a text before the first one that is greater
abbrev pub insert_text : List (List ℕ) → List ℕ → List (List ℕ)
insert_text [] text = text ∷ []
insert_text (t ∷ ts) text = if is_at_most t text then t ∷ insert_text ts text else text ∷ t ∷ ts

abbrev pub sorted_texts : List (List ℕ) → List (List ℕ)
sorted_texts texts = fold insert_text [] texts
