-- Texts of the caller's in lines: with `?` in the place of each LF, which no line has.
use Rattle.std.specs.Prelude.{ℕ, ◌==◌, if◌then◌else◌, List, [], ◌∷◌, ◌++◌, flat_map, map}

abbrev pub seen_byte : ℕ → ℕ
seen_byte b = if b == 10 then 63 else b

abbrev pub seen_text : List ℕ → List ℕ
seen_text text = map seen_byte text

abbrev pub seen_after : List ℕ → List ℕ → List ℕ
seen_after gap text = gap ++ seen_text text

-- texts, with what stands between two
abbrev pub seen_texts : List ℕ → List (List ℕ) → List ℕ
seen_texts gap [] = []
seen_texts gap (t ∷ ts) = seen_text t ++ flat_map (seen_after gap) ts
