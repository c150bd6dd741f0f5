-- The words of an LDF text are names.
use Rattle.std.proofs.Common.{◌≡◌, ◌==◌, ◌&&◌, ◌||◌, ℕ, Bool, List, [], ◌∷◌, true, not, arith}
use Rattle.std.specs.List.{All, list_all}
use Rattle.std.proofs.lemmas.Grind.{common_steps}
use Rattle.std.proofs.lemmas.List.Elements.{All-cons, All-nil}
use Rattle.lin_ldf.specs.Bytes.{is_letter, is_word_byte}
use Rattle.lin_ldf.specs.Symbols.{Symbol, is_kind, symbols_in}
use Rattle.lin_ldf.specs.Tokens.{AreTokens, IsToken}
use Rattle.lin_ldf.specs.Tokens as ldf
use Rattle.lin_ldf.specs.declared.token.Token.{Token}
use Rattle.lin_ldf.specs.declared.token.TokenKind.{TokenKind}
use Rattle.lin_ldf.specs.declared.token.TokenKind.TheVariants.{Word}
use Rattle.lin_log.specs.Said.{is_digit}
use Rattle.lin_log.specs.Laws.{all_visible, is_name, is_visible}
use Rattle.lin_log.proofs.Items.{both, weaker}
use Rattle.lin_tool.proofs.laws.LdfTokens.{AreOfKind, letter-byte, tokens-kind}

letter-begins : (b : ℕ) → is_letter b ≡ true → not (is_digit b || b == 35) ≡ true
letter-begins b h = grind (arith, common_steps)

byte-visible : (b : ℕ) → is_word_byte b ≡ true → is_visible b ≡ true
byte-visible b h = grind (arith, common_steps)

-- a name of letters, digits and `_`
abbrev pub is_identifier : List ℕ → Bool
is_identifier w = is_name w && list_all is_word_byte w

word-name : (w : List ℕ) → ldf.IsWord w → is_identifier w ≡ true
word-name w (b, bs, e, first, others) =
    rw e (both (is_name (b ∷ bs)) (list_all is_word_byte (b ∷ bs))
    (both (not (is_digit b || b == 35)) (all_visible (b ∷ bs)) (letter-begins b first)
    (both (is_visible b) (all_visible bs) (byte-visible b (letter-byte b first)) (weaker is_word_byte is_visible byte-visible bs others)))
    (both (is_word_byte b) (list_all is_word_byte bs) (letter-byte b first) (weaker is_word_byte is_word_byte (λ x h. h) bs others)))

-- a token that, where it is a word, is a name
abbrev pub IsGood : Symbol → Type 0
IsGood t = is_kind Word t.kind ≡ true → is_identifier t.text ≡ true

kind-good : (kind : TokenKind) (w : List ℕ) → IsToken kind w → is_kind Word kind ≡ true → is_identifier w ≡ true
kind-good Word w h e = word-name w h
kind-good kind w h e = absurd (cc)

all-good : (ts : List Symbol) → AreOfKind ts → All IsGood ts
all-good [] is = All-nil IsGood
all-good (t ∷ ts) (is, others) = All-cons IsGood t ts (kind-good t.kind t.text is) (all-good ts others)

pub tokens-good : (source : List ℕ) (ts : List Token) → AreTokens source ts → All IsGood (symbols_in source ts)
tokens-good source ts are = all-good (symbols_in source ts) (tokens-kind source ts are)
