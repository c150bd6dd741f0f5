-- Words that stand among the tokens of a text.
use Rattle.std.specs.Prelude.{ℕ, List, Bool}
use Rattle.std.specs.List.{list_any}
use Rattle.std.specs.Str.{bytes_eq}
use Rattle.lin_ldf.specs.Symbols.{Symbol}

-- whether a token is the word
abbrev pub has_word : List ℕ → List Symbol → Bool
has_word w ts = list_any (λ t. bytes_eq t.text w) ts
