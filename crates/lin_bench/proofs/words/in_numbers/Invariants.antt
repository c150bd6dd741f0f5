use Rattle.std.proofs.Common.{◌≡◌, ◌++◌, ◌∷◌, ℕ, List, []}
use Rattle.lin_bench.specs.LineWords.{fields_text}
use Rattle.lin_bench.specs.Parts.{fields_of}
use Rattle.lin_bench.proofs.words.in_numbers.Given as goal

-- the fields so far, and what is left with two more
abbrev pub invariant-loop-field : goal.invariant-loop-field
invariant-loop-field l = (s w : List ℕ) → l.text.items ++ fields_text (fields_of l.left ++ s ∷ w ∷ []) ≡ fields_text (fields_of l.before ++ s ∷ w ∷ [])

abbrev pub decreases-loop-field : goal.decreases-loop-field
decreases-loop-field l = l.left.count
