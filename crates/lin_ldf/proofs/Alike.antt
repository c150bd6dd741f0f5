-- Texts that differ where the one has a comma or a semicolon and the other a space: every piece
-- that begins with the same byte is us long in both.
use Rattle.std.proofs.Common.{◌≡◌, ℕ, zero, suc, ◌+◌, Bool, cond, List, [], ◌∷◌, ◌++◌, length, Option, Some, refl, sym, ap, ◌∙◌, ◌⊎◌, inl, inr}
use Rattle.std.specs.Prelude.{◌==◌, ◌&&◌, ◌||◌, drop, if◌then◌else◌}
use Rattle.std.specs.List.{prefix_len}
use Rattle.lin_ldf.specs.Bytes.{is_separator, is_letter, is_digit, is_hex_digit, is_word_byte, is_bad, is_not_newline, is_not_quote}
use Rattle.lin_ldf.specs.Scanning.{begins_with, option_shift, close_at, single, block_piece, slash_piece, text_piece, has_fraction, has_hex, fraction_len, number_len, piece_at}
use Rattle.lin_ldf.specs.declared.token.TokenKind.TheVariants as kinds
use Rattle.lin_ldf.specs.declared.lexer.Scanned.{Scanned}
use Rattle.lin_ldf.specs.declared.lexer.Scanned.TheVariants as pieces

-- the byte of a comma or of a semicolon
abbrev pub IsMarkByte : ℕ → Type 0
IsMarkByte m = (m ≡ 44) ⊎ (m ≡ 59)

abbrev AlikeByte : ℕ → ℕ → Type 0
AlikeByte a b = (a ≡ b) ⊎ (IsMarkByte a × (b ≡ 32))

abbrev pub Alike : List ℕ → List ℕ → Type 0
Alike [] [] = Unit {0}
Alike [] (b ∷ vs) = ⊥
Alike (a ∷ us) [] = ⊥
Alike (a ∷ us) (b ∷ vs) = AlikeByte a b × Alike us vs

alike_self : (us : List ℕ) → Alike us us
alike_self [] = tt
alike_self (a ∷ us) = (inl refl, alike_self us)

pub alike_at : (xs ys : List ℕ) (m : ℕ) → IsMarkByte m → Alike (xs ++ m ∷ ys) (xs ++ 32 ∷ ys)
alike_at [] ys m is = (inr (is, refl), alike_self ys)
alike_at (x ∷ xs) ys m is = (inl refl, alike_at xs ys m is)

-- ---- tests

-- the test makes no difference between these bytes and a space
abbrev Blind : (ℕ → Bool) → Type 0
Blind test = (test 44 ≡ test 32) × (test 59 ≡ test 32)

same_test : (test : ℕ → Bool) → Blind test → (a b : ℕ) → AlikeByte a b → test a ≡ test b
same_test test h a b (inl e) = ap test e
same_test test h a b (inr (inl e, f)) = ap test e ∙ h.0 ∙ sym (ap test f)
same_test test h a b (inr (inr e, f)) = ap test e ∙ h.1 ∙ sym (ap test f)

same_prefix : (test : ℕ → Bool) → Blind test → (us vs : List ℕ) → Alike us vs → prefix_len test us ≡ prefix_len test vs
same_prefix test h [] [] l = refl
same_prefix test h [] (b ∷ vs) l = absurd l
same_prefix test h (a ∷ us) [] l = absurd l
same_prefix test h (a ∷ us) (b ∷ vs) l =
    ap (λ t. cond t (1 + prefix_len test us) 0) (same_test test h a b l.0)
    ∙ ap (λ n. cond (test b) (1 + n) 0) (same_prefix test h us vs l.1)

same_begins : (test : ℕ → Bool) → Blind test → (us vs : List ℕ) → Alike us vs → begins_with test us ≡ begins_with test vs
same_begins test h [] [] l = refl
same_begins test h [] (b ∷ vs) l = absurd l
same_begins test h (a ∷ us) [] l = absurd l
same_begins test h (a ∷ us) (b ∷ vs) l = same_test test h a b l.0

pub same_length : (us vs : List ℕ) → Alike us vs → length us ≡ length vs
same_length [] [] l = refl
same_length [] (b ∷ vs) l = absurd l
same_length (a ∷ us) [] l = absurd l
same_length (a ∷ us) (b ∷ vs) l = ap suc (same_length us vs l.1)

alike_behind : (n : ℕ) (us vs : List ℕ) → Alike us vs → Alike (drop n us) (drop n vs)
alike_behind zero us vs l = l
alike_behind (suc n) [] [] l = tt
alike_behind (suc n) [] (b ∷ vs) l = absurd l
alike_behind (suc n) (a ∷ us) [] l = absurd l
alike_behind (suc n) (a ∷ us) (b ∷ vs) l = alike_behind n us vs l.1

-- ---- pieces

same_close : (us vs : List ℕ) → Alike us vs → close_at us ≡ close_at vs
same_close [] [] l = refl
same_close [] (b ∷ vs) l = absurd l
same_close (a ∷ us) [] l = absurd l
same_close (a ∷ us) (b ∷ vs) l =
    ap (λ t. cond (t && begins_with (λ d. d == 47) us) (Some 0) (option_shift 1 (close_at us))) (same_test (λ d. d == 42) (refl, refl) a b l.0)
    ∙ ap (λ t. cond ((b == 42) && t) (Some 0) (option_shift 1 (close_at us))) (same_begins (λ d. d == 47) (refl, refl) us vs l.1)
    ∙ ap (λ o. cond ((b == 42) && begins_with (λ d. d == 47) vs) (Some 0) (option_shift 1 o)) (same_close us vs l.1)

abbrev slash_shape : Bool → Bool → ℕ → Option ℕ → Scanned
slash_shape line block n o = cond line (pieces.Gap (n + 2)) (cond block (block_piece o) (pieces.Token kinds.Other 1))

same_slash : (us vs : List ℕ) → Alike us vs → slash_piece us ≡ slash_piece vs
same_slash [] [] l = refl
same_slash [] (b ∷ vs) l = absurd l
same_slash (a ∷ us) [] l = absurd l
same_slash (a ∷ us) (b ∷ vs) l =
    ap (λ t. slash_shape t (a == 42) (prefix_len is_not_newline us) (close_at us)) (same_test (λ d. d == 47) (refl, refl) a b l.0)
    ∙ ap (λ t. slash_shape (b == 47) t (prefix_len is_not_newline us) (close_at us)) (same_test (λ d. d == 42) (refl, refl) a b l.0)
    ∙ ap (λ n. slash_shape (b == 47) (b == 42) n (close_at us)) (same_prefix is_not_newline (refl, refl) us vs l.1)
    ∙ ap (λ o. slash_shape (b == 47) (b == 42) (prefix_len is_not_newline vs) o) (same_close us vs l.1)

abbrev text_shape : ℕ → ℕ → Scanned
text_shape n len = cond (n == len) pieces.OpenText (pieces.Token kinds.Text (n + 2))

same_text_piece : (us vs : List ℕ) → Alike us vs → text_piece us ≡ text_piece vs
same_text_piece us vs l =
    ap (λ n. text_shape n (length us)) (same_prefix is_not_quote (refl, refl) us vs l)
    ∙ ap (λ n. text_shape (prefix_len is_not_quote vs) n) (same_length us vs l)

same_fraction : (us vs : List ℕ) → Alike us vs → has_fraction us ≡ has_fraction vs
same_fraction [] [] l = refl
same_fraction [] (b ∷ vs) l = absurd l
same_fraction (a ∷ us) [] l = absurd l
same_fraction (a ∷ us) (b ∷ vs) l =
    ap (λ t. t && begins_with is_digit us) (same_test (λ d. d == 46) (refl, refl) a b l.0)
    ∙ ap (λ t. (b == 46) && t) (same_begins is_digit (refl, refl) us vs l.1)

same_hex : (us vs : List ℕ) → Alike us vs → has_hex us ≡ has_hex vs
same_hex [] [] l = refl
same_hex [] (b ∷ vs) l = absurd l
same_hex (a ∷ us) [] l = absurd l
same_hex (a ∷ us) (b ∷ vs) l =
    ap (λ t. t && begins_with is_hex_digit us) (same_test (λ d. d == 120 || d == 88) (refl, refl) a b l.0)
    ∙ ap (λ t. (b == 120 || b == 88) && t) (same_begins is_hex_digit (refl, refl) us vs l.1)

same_fraction_len : (us vs : List ℕ) → Alike us vs → fraction_len us ≡ fraction_len vs
same_fraction_len us vs l =
    ap (λ t. cond t (prefix_len is_digit (drop 1 us) + 1) 0) (same_fraction us vs l)
    ∙ ap (λ n. cond (has_fraction vs) (n + 1) 0) (same_prefix is_digit (refl, refl) (drop 1 us) (drop 1 vs) (alike_behind 1 us vs l))

same_number : (c : ℕ) (us vs : List ℕ) → Alike us vs → number_len c us ≡ number_len c vs
same_number c us vs l =
    let digits = same_prefix is_digit (refl, refl) us vs l in
    let behind : fraction_len (drop (prefix_len is_digit us) us) ≡ fraction_len (drop (prefix_len is_digit vs) vs) =
    same_fraction_len _ _ (alike_behind (prefix_len is_digit us) us vs l) ∙ ap (λ n. fraction_len (drop n vs)) digits in
    ap (λ t. cond (c == 48 && t) (prefix_len is_hex_digit (drop 1 us) + 2) ((prefix_len is_digit us + 1) + fraction_len (drop (prefix_len is_digit us) us))) (same_hex us vs l)
    ∙ ap (λ n. cond (c == 48 && has_hex vs) (n + 2) ((prefix_len is_digit us + 1) + fraction_len (drop (prefix_len is_digit us) us))) (same_prefix is_hex_digit (refl, refl) (drop 1 us) (drop 1 vs) (alike_behind 1 us vs l))
    ∙ ap (λ n. cond (c == 48 && has_hex vs) (prefix_len is_hex_digit (drop 1 vs) + 2) ((n + 1) + fraction_len (drop (prefix_len is_digit us) us))) digits
    ∙ ap (λ n. cond (c == 48 && has_hex vs) (prefix_len is_hex_digit (drop 1 vs) + 2) ((prefix_len is_digit vs + 1) + n)) behind

abbrev piece_shape : ℕ → Scanned → Scanned → ℕ → ℕ → Scanned
piece_shape c slash text word number =
    if is_separator c then pieces.Gap 1
    else if c == 47 then slash
    else if c == 34 then text
    else if is_letter c then pieces.Token kinds.Word (word + 1)
    else if is_digit c then pieces.Token kinds.Number number
    else if is_bad c then pieces.BadByte
    else pieces.Token (single c) 1

pub same_piece : (c : ℕ) (us vs : List ℕ) → Alike us vs → piece_at c us ≡ piece_at c vs
same_piece c us vs l =
    ap (λ s. piece_shape c s (text_piece us) (prefix_len is_word_byte us) (number_len c us)) (same_slash us vs l)
    ∙ ap (λ s. piece_shape c (slash_piece vs) s (prefix_len is_word_byte us) (number_len c us)) (same_text_piece us vs l)
    ∙ ap (λ n. piece_shape c (slash_piece vs) (text_piece vs) n (number_len c us)) (same_prefix is_word_byte (refl, refl) us vs l)
    ∙ ap (λ n. piece_shape c (slash_piece vs) (text_piece vs) (prefix_len is_word_byte vs) n) (same_number c us vs l)
