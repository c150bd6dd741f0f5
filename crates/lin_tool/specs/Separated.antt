-- Texts with marks between them.
use Rattle.std.specs.Prelude.{ℕ, List, [], ◌∷◌, ◌++◌}

-- texts one after another: before the first one stands a mark, and before each other one another mark
abbrev pub with_separators : List ℕ → List ℕ → List (List ℕ) → List ℕ
with_separators first other [] = []
with_separators first other (text ∷ texts) = first ++ (text ++ with_separators other other texts)
