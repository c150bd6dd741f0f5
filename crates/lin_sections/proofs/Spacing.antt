-- One space between words, byte by byte.
use Rattle.std.proofs.Common.{ℕ, Bool, List, [], ◌∷◌}
use Rattle.lin_sections.specs.Texts.{gaps_closed, words_on, first_word, space_between}

-- what comes behind a text and maybe a gap
abbrev pub words_behind : List ℕ → Bool → List ℕ → List ℕ
words_behind [] is_behind_gap rest = first_word (gaps_closed 0 rest)
words_behind (c ∷ cs) is_behind_gap rest = words_on (space_between (c ∷ cs) is_behind_gap) (gaps_closed 0 rest)
