-- How a TEXT of an LDF is shown.
use Rattle.std.specs.Prelude.{ℕ, Bool, zero, suc, ◌-◌, ◌==◌, ◌&&◌, ◌||◌, List, [], ◌∷◌, ◌++◌, flat_map, nat_lt}
use Rattle.std.specs.Prelude.{nat_le, if◌then◌else◌}
use Rattle.std.specs.Str.{is_utf8}

-- a character of Latin-1 in UTF-8; 80 to 9F are `?`
abbrev pub latin_1_byte : ℕ → List ℕ
latin_1_byte b =
    if nat_lt b 0x80 then b ∷ []
    else if nat_lt b 0xA0 then 63 ∷ []
    else if nat_lt b 0xC0 then 0xC2 ∷ b ∷ []
    else 0xC3 ∷ (b - 0x40) ∷ []

abbrev pub latin_1 : List ℕ → List ℕ
latin_1 bs = flat_map latin_1_byte bs

-- a space, a control, or one of the controls U+0080 to U+009F in UTF-8: how many bytes it has
abbrev pub gap_length : List ℕ → ℕ
gap_length [] = 0
gap_length (b ∷ []) = if nat_le b 0x20 || b == 0x7F then 1 else 0
gap_length (b ∷ c ∷ cs) =
    if nat_le b 0x20 || b == 0x7F then 1
    else if b == 0xC2 && (nat_le 0x80 c && nat_lt c 0xA0) then 2 else 0

-- Each gap is one space. `skipped` bytes belong to the gap before.
abbrev pub gaps_closed : ℕ → List ℕ → List ℕ
gaps_closed skipped [] = []
gaps_closed (suc n) (b ∷ bs) = gaps_closed n bs
gaps_closed zero (b ∷ bs) =
    if nat_lt 0 (gap_length (b ∷ bs)) then 32 ∷ gaps_closed (gap_length (b ∷ bs) - 1) bs
    else b ∷ gaps_closed 0 bs

-- the words, and one space between two
abbrev pub words_on : List ℕ → List ℕ → List ℕ
words_on waiting [] = []
words_on waiting (b ∷ bs) =
    if b == 32 then words_on (32 ∷ []) bs else waiting ++ b ∷ words_on [] bs

abbrev pub first_word : List ℕ → List ℕ
first_word [] = []
first_word (b ∷ bs) = if b == 32 then first_word bs else b ∷ words_on [] bs

-- the space between a text and a word behind a gap
abbrev pub space_between : List ℕ → Bool → List ℕ
space_between [] is_behind_gap = []
space_between (b ∷ bs) is_behind_gap = if is_behind_gap then 32 ∷ [] else []

abbrev pub single_spaced : List ℕ → List ℕ
single_spaced bs = first_word (gaps_closed 0 bs)

-- as it is where it is UTF-8, else as Latin-1
abbrev pub shown_text : List ℕ → List ℕ
shown_text bs = single_spaced (if is_utf8 bs then bs else latin_1 bs)
