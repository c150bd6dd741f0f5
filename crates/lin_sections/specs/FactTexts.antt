-- The texts of facts.
use Rattle.std.specs.Prelude.{ℕ, ◌+◌, ◌/◌, ◌%◌, ◌++◌, List, [], ◌∷◌, fold, nat_lt, if◌then◌else◌}
use Rattle.lin_sections.specs.declared.diff.fact_text.TextBytes.{TextBytes}
use Rattle.lin_sections.specs.declared.diff.fact_text.TextBytes.TheVariants.{Lent, Made}

-- the bytes, wherever they lie
abbrev pub fact_bytes : TextBytes → List ℕ
fact_bytes (Lent bytes) = bytes.now
fact_bytes (Made text) = text

-- a word behind a text, with a space between the two
abbrev pub with_word : List ℕ → List ℕ → List ℕ
with_word [] word = word
with_word (b ∷ bs) word = b ∷ bs ++ 32 ∷ word

-- words, with a space between two
abbrev pub with_spaces : List (List ℕ) → List ℕ
with_spaces words = fold with_word [] words

-- two hexadecimal digits of a byte
abbrev pub capital_hex_digit : ℕ → ℕ
capital_hex_digit n = if nat_lt n 10 then 48 + n else 55 + n

abbrev pub two_hex_digits : ℕ → List ℕ
two_hex_digits b = capital_hex_digit (b / 16) ∷ capital_hex_digit (b % 16) ∷ []
