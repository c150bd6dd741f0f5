-- A space in the place of a comma or a semicolon that is a token: the other tokens stay.
use Rattle.std.proofs.Common.{◌≡◌, ℕ, zero, suc, ◌+◌, ◌-◌, ◌<◌, ◌≤◌, List, [], ◌∷◌, ◌++◌, length, take, drop, set, Option, Some, None, refl, sym, ap, subst, ◌∙◌, ◌⊎◌, inl, inr, append_assoc, arith, length-append}
use Rattle.std.specs.Prelude.{slice_range, min}
use Rattle.std.proofs.lemmas.Bool.{cases_lt}
use Rattle.std.proofs.lemmas.List.{length-take, length-drop, take-append-drop, take-append-le, drop-append-le}
use Rattle.std.proofs.Math.Seq.{drop-append_seam, drop-append-add, set-append_seam}
use Rattle.lin_parts.specs.declared.place.Location.{Location}
use Rattle.lin_ldf.specs.Symbols.{symbol_in, symbols_in}
use Rattle.lin_ldf.specs.Advance.{step, first_place}
use Rattle.lin_ldf.specs.Scanning.{piece_at}
use Rattle.lin_ldf.specs.Stream.{Ahead, ahead_at, more, stop_with, start_of, token_from}
use Rattle.lin_ldf.specs.Tokens.{mark_len, behind_mark}
use Rattle.lin_ldf.specs.declared.token.Token.{Token}
use Rattle.lin_ldf.specs.declared.token.TokenKind.{TokenKind}
use Rattle.lin_ldf.specs.declared.token.TokenKind.TheVariants as kinds
use Rattle.lin_ldf.specs.declared.lexer.Scanned.{Scanned}
use Rattle.lin_ldf.specs.declared.lexer.Scanned.TheVariants as pieces
use Rattle.lin_ldf.specs.declared.fault.LdfFault.{LdfFault}
use Rattle.lin_ldf.specs.declared.fault.LdfFault.TheVariants as faults
use Rattle.lin_ldf.proofs.Stream.{nothing_ahead}
use Rattle.lin_ldf.proofs.Pieces.{found, Found}
use Rattle.lin_ldf.proofs.Alike.{IsMarkByte, Alike, alike_at, same_length, same_piece}

-- these tokens, and no fault
abbrev pub clean : List Token → Ahead
clean ts = record { tokens = ts; fault = None }

abbrev pub IsMarkKind : TokenKind → Type 0
IsMarkKind kind = (kind ≡ kinds.Comma) ⊎ (kind ≡ kinds.Semicolon)

-- ---- where tokens lie

abbrev AllFrom : ℕ → List Token → Type 0
AllFrom i [] = Unit {0}
AllFrom i (u ∷ us) = (i ≤ u.start) × AllFrom i us

abbrev AllBefore : ℕ → List Token → Type 0
AllBefore i [] = Unit {0}
AllBefore i (u ∷ us) = (u.end ≤ i) × AllBefore i us

from_earlier : (j i : ℕ) (us : List Token) → j ≤ i → AllFrom i us → AllFrom j us
from_earlier j i [] le h = tt
from_earlier j i (u ∷ us) le h = (omega (arith, h.0), from_earlier j i us le h.1)

from_mid : (i : ℕ) (before : List Token) (t : Token) (after : List Token) → AllFrom i (before ++ t ∷ after) → i ≤ t.start
from_mid i [] t after h = h.0
from_mid i (b ∷ before) t after h = from_mid i before t after h.1

-- ---- what is ahead, piece by piece

abbrev head_or : Token → List Token → Token
head_or t [] = t
head_or t (u ∷ us) = u

abbrev tail_of : List Token → List Token
tail_of [] = []
tail_of (u ∷ us) = us

no_nil : (before : List Token) (t : Token) (after : List Token) → [] ≡ before ++ t ∷ after → ⊥
no_nil [] t after e = absurd cc
no_nil (b ∷ before) t after e = absurd cc

tokens_are : (r : Ahead) (ts : List Token) → r ≡ clean ts → r.tokens ≡ ts
tokens_are r ts e = ap (λ (x : Ahead). x.tokens) e

is_clean : (r : Ahead) → r.fault ≡ None → r ≡ clean r.tokens
is_clean r e = ap (λ (f : Option LdfFault). record { tokens = r.tokens; fault = f }) e

rest_clean : (t : Token) (r : Ahead) (ts : List Token) → more t r ≡ clean ts → r ≡ clean r.tokens
rest_clean t r ts e = is_clean r (ap (λ (x : Ahead). x.fault) e)

no_stop : (f : LdfFault) (p : Location) (ts : List Token) → stop_with f p ≡ clean ts → ⊥
no_stop f p ts e =
    let bad : Some f ≡ None = ap (λ (x : Ahead). x.fault) e in
    absurd cc

gap_is : (at : ℕ) (p : Location) (c : ℕ) (cs : List ℕ) (k : ℕ) → piece_at c cs ≡ pieces.Gap k → ahead_at zero at p (c ∷ cs) ≡ ahead_at (k - 1) (at + 1) (step p c) cs
unfolding ahead_at
gap_is at p c cs k h = rw (h, ahead_at) refl

token_is : (at : ℕ) (p : Location) (c : ℕ) (cs : List ℕ) (kind : TokenKind) (k : ℕ) → piece_at c cs ≡ pieces.Token kind k
    → ahead_at zero at p (c ∷ cs) ≡ more (token_from kind at (length (take k (c ∷ cs))) p) (ahead_at (k - 1) (at + 1) (step p c) cs)
unfolding ahead_at
token_is at p c cs kind k h = rw (h, ahead_at) refl

bad_byte_is : (at : ℕ) (p : Location) (c : ℕ) (cs : List ℕ) → piece_at c cs ≡ pieces.BadByte → ahead_at zero at p (c ∷ cs) ≡ stop_with (faults.BadByte p) p
unfolding ahead_at
bad_byte_is at p c cs h = rw (h, ahead_at) refl

open_comment_is : (at : ℕ) (p : Location) (c : ℕ) (cs : List ℕ) → piece_at c cs ≡ pieces.OpenComment → ahead_at zero at p (c ∷ cs) ≡ stop_with (faults.OpenComment p) p
unfolding ahead_at
open_comment_is at p c cs h = rw (h, ahead_at) refl

open_text_is : (at : ℕ) (p : Location) (c : ℕ) (cs : List ℕ) → piece_at c cs ≡ pieces.OpenText → ahead_at zero at p (c ∷ cs) ≡ stop_with (faults.OpenText p) p
unfolding ahead_at
open_text_is at p c cs h = rw (h, ahead_at) refl

skip_is : (n at : ℕ) (p : Location) (c : ℕ) (cs : List ℕ) → ahead_at (suc n) at p (c ∷ cs) ≡ ahead_at n (at + 1) (step p c) cs
unfolding ahead_at
skip_is n at p c cs = refl

-- tokens begin behind what is passed over
all_from : (text : List ℕ) (n at : ℕ) (p : Location) (ts : List Token) → ahead_at n at p text ≡ clean ts → AllFrom (at + n) ts
all_from [] n at p ts e =
    let none : [] ≡ ts = tokens_are _ ts (sym (nothing_ahead n at p) ∙ e) in
    subst (AllFrom (at + n)) none tt
all_from (c ∷ cs) (suc n) at p ts e =
    from_earlier (at + suc n) (at + 1 + n) ts (omega arith) (all_from cs n (at + 1) (step p c) ts (sym (skip_is n at p c cs) ∙ e))
all_from (c ∷ cs) zero at p ts e = elim (piece_at c cs) as (λ s. piece_at c cs ≡ s → AllFrom (at + zero) ts) [
  | pieces.Gap k ↦ λ is. from_earlier (at + zero) (at + 1 + (k - 1)) ts (omega arith) (all_from cs (k - 1) (at + 1) (step p c) ts (sym (gap_is at p c cs k is) ∙ e))
  | pieces.Token kind k ↦ λ is.
      let t : Token = token_from kind at (length (take k (c ∷ cs))) p in
      let r : Ahead = ahead_at (k - 1) (at + 1) (step p c) cs in
      let whole : more t r ≡ clean ts = sym (token_is at p c cs kind k is) ∙ e in
      let behind : AllFrom (at + 1 + (k - 1)) r.tokens = all_from cs (k - 1) (at + 1) (step p c) r.tokens (rest_clean t r ts whole) in
      subst (AllFrom (at + zero)) (tokens_are (more t r) ts whole) (omega arith, from_earlier (at + zero) (at + 1 + (k - 1)) r.tokens (omega arith) behind)
  | pieces.BadByte ↦ λ is. absurd (no_stop _ p ts (sym (bad_byte_is at p c cs is) ∙ e))
  | pieces.OpenComment ↦ λ is. absurd (no_stop _ p ts (sym (open_comment_is at p c cs is) ∙ e))
  | pieces.OpenText ↦ λ is. absurd (no_stop _ p ts (sym (open_text_is at p c cs is) ∙ e))
] refl

-- ---- one mark

-- in these bytes it is this one; with a space there, what is ahead lacks it, and nothing else
pub record Gone (n at : ℕ) (p : Location) (text : List ℕ) (before : List Token) (t : Token) (after : List Token) : Type 0 where
  pub front : List ℕ
  pub byte : ℕ
  pub back : List ℕ
  pub split : text ≡ front ++ byte ∷ back
  pub is_mark : IsMarkByte byte
  pub start : t.start ≡ at + length front
  pub gone : ahead_at n at p (front ++ 32 ∷ back) ≡ clean (before ++ after)
  pub left : AllBefore t.start before
  pub right : AllFrom (t.start + 1) after

first_byte : (n c : ℕ) (cs : List ℕ) (b : ℕ) → take n (c ∷ cs) ≡ b ∷ [] → c ≡ b
first_byte zero c cs b e = absurd cc
first_byte (suc n) c cs b e = cc

mark_byte : (kind : TokenKind) (k c : ℕ) (cs : List ℕ) → IsMarkKind kind → piece_at c cs ≡ pieces.Token kind k → IsMarkByte c
mark_byte kind k c cs (inl is) e =
    let same : piece_at c cs ≡ pieces.Token kinds.Comma k = e ∙ ap (λ (x : TokenKind). pieces.Token x k) is in
    let f : Found (pieces.Token kinds.Comma k) (c ∷ cs) = subst (λ (s : Scanned). Found s (c ∷ cs)) same (found c cs) in
    inl (first_byte k c cs 44 f.form)
mark_byte kind k c cs (inr is) e =
    let same : piece_at c cs ≡ pieces.Token kinds.Semicolon k = e ∙ ap (λ (x : TokenKind). pieces.Token x k) is in
    let f : Found (pieces.Token kinds.Semicolon k) (c ∷ cs) = subst (λ (s : Scanned). Found s (c ∷ cs)) same (found c cs) in
    inr (first_byte k c cs 59 f.form)

-- its piece has one byte, and counts as a space does
one_byte : (kind its : TokenKind) (k : ℕ) → pieces.Token its 1 ≡ pieces.Token kind k → k ≡ 1
one_byte kind its k e = cc

mark_size : (kind : TokenKind) (k c : ℕ) (cs : List ℕ) → IsMarkByte c → piece_at c cs ≡ pieces.Token kind k → k ≡ 1
mark_size kind k c cs (inl is) e =
    let same : piece_at 44 cs ≡ pieces.Token kind k = subst (λ (b : ℕ). piece_at b cs ≡ pieces.Token kind k) is e in
    one_byte kind kinds.Comma k same
mark_size kind k c cs (inr is) e =
    let same : piece_at 59 cs ≡ pieces.Token kind k = subst (λ (b : ℕ). piece_at b cs ≡ pieces.Token kind k) is e in
    one_byte kind kinds.Semicolon k same

mark_step : (p : Location) (c : ℕ) → IsMarkByte c → step p c ≡ step p 32
mark_step p c (inl is) = ap (step p) is
mark_step p c (inr is) = ap (step p) is

-- the mark is the first byte
gone_here : (at : ℕ) (p : Location) (c : ℕ) (cs : List ℕ) (kind : TokenKind) (k : ℕ) (t : Token) (after : List Token) → IsMarkByte c → k ≡ 1 → t ≡ token_from kind at (length (take k (c ∷ cs))) p
    → ahead_at (k - 1) (at + 1) (step p c) cs ≡ clean after → Gone zero at p (c ∷ cs) [] t after
gone_here at p c cs kind k t after is one same e =
    let none : k - 1 ≡ zero = omega arith in
    let start : t.start ≡ at = ap (λ (x : Token). x.start) same in
    let behind : ahead_at zero (at + 1) (step p 32) cs ≡ clean after = rw (none, mark_step p c is) at e in
    let right : AllFrom (at + 1 + zero) after = all_from cs zero (at + 1) (step p 32) after behind in
    record {
      front = [];
      byte = c;
      back = cs;
      split = refl;
      is_mark = is;
      start = omega arith;
      gone = gap_is at p 32 cs 1 refl ∙ behind;
      left = tt;
      right = from_earlier (t.start + 1) (at + 1 + zero) after (omega arith) right;
    }

-- it stands behind a first byte of which nothing is a token here
gone_behind : (n m at : ℕ) (p q : Location) (c : ℕ) (cs : List ℕ) (before : List Token) (t : Token) (after : List Token)
    → ((ds : List ℕ) → Alike cs ds → ahead_at n at p (c ∷ ds) ≡ ahead_at m (at + 1) q ds) → Gone m (at + 1) q cs before t after → Gone n at p (c ∷ cs) before t after
gone_behind n m at p q c cs before t after is g =
    let alike : Alike cs (g.front ++ 32 ∷ g.back) = subst (λ (xs : List ℕ). Alike xs (g.front ++ 32 ∷ g.back)) (sym g.split) (alike_at g.front g.back g.byte g.is_mark) in
    record {
      front = c ∷ g.front;
      byte = g.byte;
      back = g.back;
      split = ap (λ (xs : List ℕ). c ∷ xs) g.split;
      is_mark = g.is_mark;
      start = omega (arith, g.start);
      gone = is (g.front ++ 32 ∷ g.back) alike ∙ g.gone;
      left = g.left;
      right = g.right;
    }

-- it stands behind a token
gone_later : (at : ℕ) (p : Location) (c : ℕ) (cs : List ℕ) (kind : TokenKind) (k : ℕ) (b : Token) (before : List Token) (t : Token) (after : List Token) → piece_at c cs ≡ pieces.Token kind k
    → b ≡ token_from kind at (length (take k (c ∷ cs))) p → at + 1 + (k - 1) ≤ t.start → Gone (k - 1) (at + 1) (step p c) cs before t after → Gone zero at p (c ∷ cs) (b ∷ before) t after
gone_later at p c cs kind k b before t after is same le g =
    let ds : List ℕ = g.front ++ 32 ∷ g.back in
    let alike : Alike cs ds = subst (λ (xs : List ℕ). Alike xs ds) (sym g.split) (alike_at g.front g.back g.byte g.is_mark) in
    let len : length (take k (c ∷ ds)) ≡ length (take k (c ∷ cs)) = simp length-take (ap (λ (n : ℕ). min k (suc n)) (sym (same_length cs ds alike))) in
    let size : length (take k (c ∷ cs)) ≤ k = omega (arith, length-take k (c ∷ cs)) in
    let end : b.end ≡ at + length (take k (c ∷ cs)) = ap (λ (x : Token). x.end) same in
    record {
      front = c ∷ g.front;
      byte = g.byte;
      back = g.back;
      split = ap (λ (xs : List ℕ). c ∷ xs) g.split;
      is_mark = g.is_mark;
      start = omega (arith, g.start);
      gone =
          token_is at p c ds kind k (sym (same_piece c cs ds alike) ∙ is)
          ∙ ap (λ (n : ℕ). more (token_from kind at n p) (ahead_at (k - 1) (at + 1) (step p c) ds)) len
          ∙ ap (λ (x : Token). more x (ahead_at (k - 1) (at + 1) (step p c) ds)) (sym same)
          ∙ ap (more b) g.gone;
      left = (omega arith, g.left);
      right = g.right;
    }

-- behind a piece that is a token, this one or one before it
gone_at_token : (at : ℕ) (p : Location) (c : ℕ) (cs : List ℕ) (t : Token) (after : List Token) → IsMarkKind t.kind
    → ((k : ℕ) (before : List Token) → ahead_at (k - 1) (at + 1) (step p c) cs ≡ clean (before ++ t ∷ after) → Gone (k - 1) (at + 1) (step p c) cs before t after)
    → (kind : TokenKind) (k : ℕ) → piece_at c cs ≡ pieces.Token kind k → (before : List Token) → ahead_at zero at p (c ∷ cs) ≡ clean (before ++ t ∷ after) → Gone zero at p (c ∷ cs) before t after
gone_at_token at p c cs t after is later kind k h [] e =
    let x : Token = token_from kind at (length (take k (c ∷ cs))) p in
    let r : Ahead = ahead_at (k - 1) (at + 1) (step p c) cs in
    let whole : more x r ≡ clean (t ∷ after) = sym (token_is at p c cs kind k h) ∙ e in
    let same : x ≡ t = ap (λ (y : Ahead). head_or x y.tokens) whole in
    let others : r.tokens ≡ after = ap (λ (y : Ahead). tail_of y.tokens) whole in
    let kind_is : IsMarkKind kind = subst IsMarkKind (sym (ap (λ (y : Token). y.kind) same)) is in
    let byte = mark_byte kind k c cs kind_is h in
    gone_here at p c cs kind k t after byte (mark_size kind k c cs byte h) (sym same) (rest_clean x r _ whole ∙ ap clean others)
gone_at_token at p c cs t after is later kind k h (b ∷ before) e =
    let x : Token = token_from kind at (length (take k (c ∷ cs))) p in
    let r : Ahead = ahead_at (k - 1) (at + 1) (step p c) cs in
    let whole : more x r ≡ clean (b ∷ (before ++ t ∷ after)) = sym (token_is at p c cs kind k h) ∙ e in
    let same : x ≡ b = ap (λ (y : Ahead). head_or x y.tokens) whole in
    let others : r.tokens ≡ before ++ t ∷ after = ap (λ (y : Ahead). tail_of y.tokens) whole in
    let behind : r ≡ clean (before ++ t ∷ after) = rest_clean x r _ whole ∙ ap clean others in
    gone_later at p c cs kind k b before t after h (sym same) (from_mid _ before t after (all_from cs (k - 1) (at + 1) (step p c) _ behind)) (later k before behind)

gone_from : (text : List ℕ) (n at : ℕ) (p : Location) (before : List Token) (t : Token) (after : List Token) → IsMarkKind t.kind → ahead_at n at p text ≡ clean (before ++ t ∷ after) → Gone n at p text before t after
gone_from [] n at p before t after is e = absurd (no_nil before t after (tokens_are _ _ (sym (nothing_ahead n at p) ∙ e)))
gone_from (c ∷ cs) (suc n) at p before t after is e =
    gone_behind (suc n) n at p (step p c) c cs before t after (λ ds l. skip_is n at p c ds) (gone_from cs n (at + 1) (step p c) before t after is (sym (skip_is n at p c cs) ∙ e))
gone_from (c ∷ cs) zero at p before t after is e = elim (piece_at c cs) as (λ s. piece_at c cs ≡ s → Gone zero at p (c ∷ cs) before t after) [
  | pieces.Gap k ↦ λ h.
      gone_behind zero (k - 1) at p (step p c) c cs before t after (λ ds l. gap_is at p c ds k (sym (same_piece c cs ds l) ∙ h))
      (gone_from cs (k - 1) (at + 1) (step p c) before t after is (sym (gap_is at p c cs k h) ∙ e))
  | pieces.Token kind k ↦ λ h. gone_at_token at p c cs t after is (λ k before e. gone_from cs (k - 1) (at + 1) (step p c) before t after is e) kind k h before e
  | pieces.BadByte ↦ λ h. absurd (no_stop _ p _ (sym (bad_byte_is at p c cs h) ∙ e))
  | pieces.OpenComment ↦ λ h. absurd (no_stop _ p _ (sym (open_comment_is at p c cs h) ∙ e))
  | pieces.OpenText ↦ λ h. absurd (no_stop _ p _ (sym (open_text_is at p c cs h) ∙ e))
] refl

-- ---- in a source

one_symbol : (s s' : List ℕ) (u : Token) → slice_range s u.start u.end ≡ slice_range s' u.start u.end → symbol_in s u ≡ symbol_in s' u
one_symbol s s' u e = ap (λ (w : List ℕ). record { kind = u.kind; text = w; line = u.line; column = u.column }) e

part_before : (whole xs ys : List ℕ) (i j : ℕ) → j ≤ length whole → slice_range (whole ++ xs) i j ≡ slice_range (whole ++ ys) i j
part_before whole xs ys i j le = elim (cases_lt i j) [
  | inl h ↦
      let fits : j - i ≤ length (drop i whole) = omega (arith, length-drop i whole) in
      let at_most : i ≤ length whole = omega arith in
      let one : (zs : List ℕ) → slice_range (whole ++ zs) i j ≡ take (j - i) (drop i whole) =
      λ zs. ap (take (j - i)) (drop-append-le i whole zs at_most) ∙ take-append-le (j - i) (drop i whole) zs fits in
      one xs ∙ sym (one ys)
  | inr h ↦ let none : j - i ≡ zero = omega arith in rw none refl
]

part_behind : (whole : List ℕ) (a b : ℕ) (back : List ℕ) (i j : ℕ) → length whole < i → slice_range (whole ++ a ∷ back) i j ≡ slice_range (whole ++ b ∷ back) i j
part_behind whole a b back i j lt =
    let n : ℕ = i - length whole - 1 in
    let same : i ≡ length whole + suc n = omega arith in
    let one : (c : ℕ) → drop i (whole ++ c ∷ back) ≡ drop n back = λ c. ap (λ (k : ℕ). drop k (whole ++ c ∷ back)) same ∙ drop-append-add whole (c ∷ back) (suc n) in
    ap (take (j - i)) (one a ∙ sym (one b))

same_before : (whole xs ys : List ℕ) (us : List Token) → AllBefore (length whole) us → symbols_in (whole ++ xs) us ≡ symbols_in (whole ++ ys) us
same_before whole xs ys [] h = refl
same_before whole xs ys (u ∷ us) h =
    let one = one_symbol (whole ++ xs) (whole ++ ys) u (part_before whole xs ys u.start u.end h.0) in
    let others = same_before whole xs ys us h.1 in
    cc

same_behind : (whole : List ℕ) (a b : ℕ) (back : List ℕ) (us : List Token) → AllFrom (length whole + 1) us → symbols_in (whole ++ a ∷ back) us ≡ symbols_in (whole ++ b ∷ back) us
same_behind whole a b back [] h = refl
same_behind whole a b back (u ∷ us) h =
    let one = one_symbol (whole ++ a ∷ back) (whole ++ b ∷ back) u (part_behind whole a b back u.start u.end (omega (arith, h.0))) in
    let others = same_behind whole a b back us h.1 in
    cc

-- a mark is no byte of the byte-order mark
same_mark_len : (whole : List ℕ) (m : ℕ) (back : List ℕ) → IsMarkByte m → mark_len (whole ++ m ∷ back) ≡ mark_len (whole ++ 32 ∷ back)
same_mark_len [] m back (inl is) = rw is refl
same_mark_len [] m back (inr is) = rw is refl
same_mark_len (a ∷ []) m back (inl is) = rw is refl
same_mark_len (a ∷ []) m back (inr is) = rw is refl
same_mark_len (a ∷ b ∷ []) m back (inl is) = rw is refl
same_mark_len (a ∷ b ∷ []) m back (inr is) = rw is refl
same_mark_len (a ∷ b ∷ c ∷ whole) m back is = refl

blank_is : (whole : List ℕ) (m : ℕ) (back : List ℕ) (t : Token) → t.start ≡ length whole → set (whole ++ m ∷ back) t.start 32 ≡ whole ++ 32 ∷ back
blank_is whole m back t e = rw e (set-append_seam whole m back 32)

-- what a space in the place of a mark makes of a source
pub record Blank (source : List ℕ) (before : List Token) (t : Token) (after : List Token) : Type 0 where
  pub ahead : start_of (set source t.start 32) ≡ clean (before ++ after)
  pub left : symbols_in (set source t.start 32) before ≡ symbols_in source before
  pub right : symbols_in (set source t.start 32) after ≡ symbols_in source after

blank_split : (n : ℕ) (skipped front : List ℕ) (m : ℕ) (back : List ℕ) (before : List Token) (t : Token) (after : List Token) → mark_len (skipped ++ (front ++ m ∷ back)) ≡ n → length skipped ≡ n → IsMarkByte m
    → t.start ≡ n + length front → ahead_at 0 n first_place (front ++ 32 ∷ back) ≡ clean (before ++ after) → AllBefore t.start before → AllFrom (t.start + 1) after
    → Blank (skipped ++ (front ++ m ∷ back)) before t after
blank_split n skipped front m back before t after mark len is start gone left right =
    let whole : List ℕ = skipped ++ front in
    let at : t.start ≡ length whole = omega (arith, length-append skipped front) in
    let split : (c : ℕ) → skipped ++ (front ++ c ∷ back) ≡ whole ++ c ∷ back = λ c. sym (append_assoc skipped front (c ∷ back)) in
    let blank : set (skipped ++ (front ++ m ∷ back)) t.start 32 ≡ whole ++ 32 ∷ back = ap (λ (s : List ℕ). set s t.start 32) (split m) ∙ blank_is whole m back t at in
    let mark' : mark_len (whole ++ 32 ∷ back) ≡ n = sym (same_mark_len whole m back is) ∙ ap mark_len (sym (split m)) ∙ mark in
    let behind : drop n (whole ++ 32 ∷ back) ≡ front ++ 32 ∷ back =
    ap (drop n) (sym (split 32)) ∙ ap (λ (k : ℕ). drop k (skipped ++ (front ++ 32 ∷ back))) (sym len) ∙ drop-append_seam skipped (front ++ 32 ∷ back) in
    record {
      ahead = rw (blank, mark', behind) gone;
      left = ap (λ (s : List ℕ). symbols_in s before) blank ∙ same_before whole (32 ∷ back) (m ∷ back) before (subst (λ (i : ℕ). AllBefore i before) at left) ∙ ap (λ (s : List ℕ). symbols_in s before) (sym (split m));
      right = ap (λ (s : List ℕ). symbols_in s after) blank ∙ same_behind whole 32 m back after (subst (λ (i : ℕ). AllFrom (i + 1) after) at right) ∙ ap (λ (s : List ℕ). symbols_in s after) (sym (split m));
    }

pub blanked_once : (source : List ℕ) (before : List Token) (t : Token) (after : List Token) → IsMarkKind t.kind → start_of source ≡ clean (before ++ t ∷ after) → Blank source before t after
blanked_once source before t after is e =
    let n : ℕ = mark_len source in
    let g : Gone 0 n first_place (behind_mark source) before t after = gone_from (behind_mark source) 0 n first_place before t after is e in
    let split : take n source ++ (g.front ++ g.byte ∷ g.back) ≡ source = ap (λ (xs : List ℕ). take n source ++ xs) (sym g.split) ∙ take-append-drop n source in
    let some : length (drop n source) ≡ length g.front + suc (length g.back) = ap length g.split ∙ length-append g.front (g.byte ∷ g.back) in
    let len : length (take n source) ≡ n = omega (arith, length-take n source, length-drop n source, some) in
    subst (λ (s : List ℕ). Blank s before t after) split
    (blank_split n (take n source) g.front g.byte g.back before t after (ap mark_len split) len g.is_mark g.start g.gone g.left g.right)
