-- Tokens that are pulled from a text, one piece after the other.
use Rattle.std.proofs.Common.{◌≡◌, ℕ, zero, suc, ◌+◌, ◌-◌, ◌<◌, ◌≤◌, List, [], ◌∷◌, ◌++◌, length, take, drop, Option, Some, None, Ok, refl, sym, ap, subst, ◌∙◌, append_assoc, arith}
use Rattle.std.proofs.lemmas.List.{drop-drop, length-drop, length-map, length-take}
use Rattle.lin_ldf.specs.Symbols.{symbol_in, symbols_in}
use Rattle.lin_ldf.specs.Stream.{Ahead, ahead_at, empty_ahead, more, stop_with, still, token_from, Pulls}
use Rattle.lin_ldf.specs.Scanning.{front_piece, piece_at}
use Rattle.lin_ldf.specs.Advance.{step, place_behind}
use Rattle.lin_ldf.specs.declared.fault.LdfFault.TheVariants as faults
use Rattle.lin_ldf.specs.declared.token.Token.{Token}
use Rattle.lin_ldf.specs.declared.token.TokenKind.{TokenKind}
use Rattle.lin_ldf.specs.declared.lexer.Scanned.{Scanned}
use Rattle.lin_ldf.specs.declared.lexer.Lexer.{Lexer}
use Rattle.lin_ldf.specs.declared.lexer.Scanned.TheVariants as pieces
use Rattle.lin_parts.specs.declared.place.Location.{Location}

-- bytes that are passed over only move the offset and the place, all of them or the first alone
pub passed : (k n m at : ℕ) (p : Location) (text : List ℕ) → m ≡ k + n → ahead_at m at p text ≡ ahead_at n (at + length (take k text)) (place_behind p (take k text)) (drop k text)
unfolding ahead_at
passed zero n m at p text e =
    let same : at ≡ at + 0 = omega arith in
    ap (λ (j : ℕ). ahead_at j at p text) (omega (arith, e)) ∙ ap (λ (j : ℕ). ahead_at n j p text) same
passed (suc k) n m at p [] e = refl
passed (suc k) n zero at p (c ∷ cs) e = absurd (omega (arith, e))
passed (suc k) n (suc m) at p (c ∷ cs) e =
    let same : at + 1 + length (take k cs) ≡ at + suc (length (take k cs)) = omega arith in
    passed k n m (at + 1) (step p c) cs (omega (arith, e)) ∙ ap (λ (j : ℕ). ahead_at n j (place_behind (step p c) (take k cs)) (drop k cs)) same

passed_all : (n at : ℕ) (p : Location) (text : List ℕ) → ahead_at n at p text ≡ ahead_at 0 (at + length (take n text)) (place_behind p (take n text)) (drop n text)
passed_all n at p text = passed n 0 n at p text (omega arith)

pub gap_here : (at : ℕ) (p : Location) (c : ℕ) (cs : List ℕ) (n : ℕ) → 0 < n → piece_at c cs ≡ pieces.Gap n → ahead_at 0 at p (c ∷ cs) ≡ ahead_at n at p (c ∷ cs)
unfolding ahead_at
gap_here at p c cs zero lt h = absurd (omega arith)
gap_here at p c cs (suc n) lt h =
    let same : suc n - 1 ≡ n = omega arith in
    rw (h, ahead_at, same) refl

pub token_here : (k : TokenKind) (at : ℕ) (p : Location) (c : ℕ) (cs : List ℕ) (n : ℕ) → 0 < n → piece_at c cs ≡ pieces.Token k n
    → ahead_at 0 at p (c ∷ cs) ≡ more (token_from k at (length (take n (c ∷ cs))) p) (ahead_at n at p (c ∷ cs))
unfolding ahead_at
token_here k at p c cs zero lt h = absurd (omega arith)
token_here k at p c cs (suc n) lt h =
    let same : suc n - 1 ≡ n = omega arith in
    rw (h, ahead_at, same) refl

pub gap_at : (at : ℕ) (p : Location) (c : ℕ) (cs : List ℕ) (n : ℕ) → 0 < n → piece_at c cs ≡ pieces.Gap n → ahead_at 0 at p (c ∷ cs) ≡ ahead_at 0 (at + length (take n (c ∷ cs))) (place_behind p (take n (c ∷ cs))) (drop n (c ∷ cs))
gap_at at p c cs n lt h = gap_here at p c cs n lt h ∙ passed_all n at p (c ∷ cs)

pub token_at : (k : TokenKind) (at : ℕ) (p : Location) (c : ℕ) (cs : List ℕ) (n : ℕ) → 0 < n → piece_at c cs ≡ pieces.Token k n
    → ahead_at 0 at p (c ∷ cs) ≡ more (token_from k at (length (take n (c ∷ cs))) p) (ahead_at 0 (at + length (take n (c ∷ cs))) (place_behind p (take n (c ∷ cs))) (drop n (c ∷ cs)))
token_at k at p c cs n lt h =
    token_here k at p c cs n lt h ∙ ap (λ (r : Ahead). more (token_from k at (length (take n (c ∷ cs))) p) r) (passed_all n at p (c ∷ cs))

pub bad_byte_at : (at : ℕ) (p : Location) (c : ℕ) (cs : List ℕ) → piece_at c cs ≡ pieces.BadByte → ahead_at 0 at p (c ∷ cs) ≡ stop_with (faults.BadByte p) p
unfolding ahead_at
bad_byte_at at p c cs h = rw (h, ahead_at) refl

pub open_comment_at : (at : ℕ) (p : Location) (c : ℕ) (cs : List ℕ) → piece_at c cs ≡ pieces.OpenComment → ahead_at 0 at p (c ∷ cs) ≡ stop_with (faults.OpenComment p) p
unfolding ahead_at
open_comment_at at p c cs h = rw (h, ahead_at) refl

pub open_text_at : (at : ℕ) (p : Location) (c : ℕ) (cs : List ℕ) → piece_at c cs ≡ pieces.OpenText → ahead_at 0 at p (c ∷ cs) ≡ stop_with (faults.OpenText p) p
unfolding ahead_at
open_text_at at p c cs h = rw (h, ahead_at) refl

pub nothing_ahead : (n at : ℕ) (p : Location) → ahead_at n at p [] ≡ empty_ahead
unfolding ahead_at
nothing_ahead n at p = refl

-- ---- the same of a source, from an offset on

pub at_end : (source : List ℕ) (at : ℕ) (p : Location) → length source ≤ at → ahead_at 0 at p (drop at source) ≡ empty_ahead
at_end source at p le = none (drop at source) (omega (arith, length-drop at source))
  where
    none : (rest : List ℕ) → length rest ≡ 0 → ahead_at 0 at p rest ≡ empty_ahead
    none [] e = nothing_ahead 0 at p
    none (c ∷ cs) e = absurd (omega arith)

pub passed_in : (source : List ℕ) (at n : ℕ) (p : Location) → n ≤ length (drop at source)
    → ahead_at n at p (drop at source) ≡ ahead_at 0 (at + n) (place_behind p (take n (drop at source))) (drop (at + n) source)
passed_in source at n p le =
    let len : length (take n (drop at source)) ≡ n = omega (arith, length-take n (drop at source)) in
    passed_all n at p (drop at source)
    ∙ ap (λ (k : ℕ). ahead_at 0 (at + k) (place_behind p (take n (drop at source))) (drop n (drop at source))) len
    ∙ ap (ahead_at 0 (at + n) (place_behind p (take n (drop at source)))) (drop-drop n at source)

pub behind_gap : (source rest : List ℕ) (at n : ℕ) (p : Location) → at < length source → rest ≡ drop at source → 0 < n → n ≤ length rest → front_piece rest ≡ pieces.Gap n
    → ahead_at 0 at p (drop at source) ≡ ahead_at 0 (at + n) (place_behind p (take n (drop at source))) (drop (at + n) source)
behind_gap source [] at n p lt e some within h = absurd (omega arith)
behind_gap source (c ∷ cs) at n p lt e some within h =
    subst (λ (r : List ℕ). ahead_at 0 at p r ≡ ahead_at n at p r) e (gap_here at p c cs n some h)
    ∙ passed_in source at n p (subst (λ (r : List ℕ). n ≤ length r) e within)

pub behind_token : (source rest : List ℕ) (at n : ℕ) (k : TokenKind) (p : Location) → at < length source → rest ≡ drop at source → 0 < n → n ≤ length rest → front_piece rest ≡ pieces.Token k n
    → ahead_at 0 at p (drop at source) ≡ more (token_from k at n p) (ahead_at 0 (at + n) (place_behind p (take n (drop at source))) (drop (at + n) source))
behind_token source [] at n k p lt e some within h = absurd (omega arith)
behind_token source (c ∷ cs) at n k p lt e some within h =
    let len : length (take n (c ∷ cs)) ≡ n = omega (arith, length-take n (c ∷ cs)) in
    subst (λ (r : List ℕ). ahead_at 0 at p r ≡ more (token_from k at n p) (ahead_at n at p r)) e
    (token_here k at p c cs n some h ∙ ap (λ (m : ℕ). more (token_from k at m p) (ahead_at n at p (c ∷ cs))) len)
    ∙ ap (more (token_from k at n p)) (passed_in source at n p (subst (λ (r : List ℕ). n ≤ length r) e within))

pub at_bad_byte : (source rest : List ℕ) (at : ℕ) (p : Location) → rest ≡ drop at source → front_piece rest ≡ pieces.BadByte → ahead_at 0 at p (drop at source) ≡ stop_with (faults.BadByte p) p
at_bad_byte source [] at p e h = absurd cc
at_bad_byte source (c ∷ cs) at p e h = subst (λ (r : List ℕ). ahead_at 0 at p r ≡ stop_with (faults.BadByte p) p) e (bad_byte_at at p c cs h)

pub at_open_comment : (source rest : List ℕ) (at : ℕ) (p : Location) → rest ≡ drop at source → front_piece rest ≡ pieces.OpenComment → ahead_at 0 at p (drop at source) ≡ stop_with (faults.OpenComment p) p
at_open_comment source [] at p e h = absurd cc
at_open_comment source (c ∷ cs) at p e h = subst (λ (r : List ℕ). ahead_at 0 at p r ≡ stop_with (faults.OpenComment p) p) e (open_comment_at at p c cs h)

pub at_open_text : (source rest : List ℕ) (at : ℕ) (p : Location) → rest ≡ drop at source → front_piece rest ≡ pieces.OpenText → ahead_at 0 at p (drop at source) ≡ stop_with (faults.OpenText p) p
at_open_text source [] at p e h = absurd cc
at_open_text source (c ∷ cs) at p e h = subst (λ (r : List ℕ). ahead_at 0 at p r ≡ stop_with (faults.OpenText p) p) e (open_text_at at p c cs h)

-- these tokens before what is ahead
abbrev pub added : List Token → Ahead → Ahead
added ts r = record { tokens = ts ++ r.tokens; fault = r.fault }

pub one_added : (ts : List Token) (t : Token) (r : Ahead) → added ts (more t r) ≡ added (ts ++ t ∷ []) r
one_added ts t r = ap (λ (us : List Token). record { tokens = us; fault = r.fault }) (sym (append_assoc ts (t ∷ []) r.tokens))

pub nothing_pulled : (o : Option Token) (old new : Lexer) → ((t : Token) → o ≡ Some t → ⊥) → Pulls (Ok o) old new → still old ≡ empty_ahead
nothing_pulled None old new none h = h
nothing_pulled (Some t) old new none h = absurd (none t refl)

-- ---- how many there are

abbrev shown : Scanned → ℕ → Location → ℕ → List ℕ → Ahead
shown s at p c cs = elim s [
  | pieces.Gap k ↦ ahead_at (k - 1) (at + 1) (step p c) cs
  | pieces.Token kind k ↦ more (token_from kind at (length (take k (c ∷ cs))) p) (ahead_at (k - 1) (at + 1) (step p c) cs)
  | pieces.BadByte ↦ stop_with (faults.BadByte p) p
  | pieces.OpenComment ↦ stop_with (faults.OpenComment p) p
  | pieces.OpenText ↦ stop_with (faults.OpenText p) p
]

-- no more tokens than bytes
tokens_fit : (n at : ℕ) (p : Location) (text : List ℕ) → length (ahead_at n at p text).tokens ≤ length text
unfolding ahead_at
tokens_fit zero at p [] = omega arith
tokens_fit (suc n) at p [] = omega arith
tokens_fit zero at p (c ∷ cs) = elim (piece_at c cs) as (λ s. length (shown s at p c cs).tokens ≤ suc (length cs)) [
  | pieces.Gap k ↦ let h = tokens_fit (k - 1) (at + 1) (step p c) cs in omega (arith, h)
  | pieces.Token kind k ↦ let h = tokens_fit (k - 1) (at + 1) (step p c) cs in omega (arith, h)
  | pieces.BadByte ↦ omega arith
  | pieces.OpenComment ↦ omega arith
  | pieces.OpenText ↦ omega arith
]
tokens_fit (suc n) at p (c ∷ cs) = let h = tokens_fit n (at + 1) (step p c) cs in omega (arith, h)

pub symbols_fit : (source : List ℕ) (at : ℕ) (p : Location) → length (symbols_in source (ahead_at 0 at p (drop at source)).tokens) ≤ length source - at
symbols_fit source at p =
    omega (arith, tokens_fit 0 at p (drop at source), length-drop at source, length-map (ahead_at 0 at p (drop at source)).tokens (symbol_in source))
