-- A text has tokens, and those are ahead of the lexer; or it has a first fault, and what is ahead ends in it.
use Rattle.std.proofs.Common.{◌≡◌, ◌≢◌, ℕ, zero, suc, ◌+◌, ◌<◌, ◌≤◌, List, [], ◌∷◌, ◌++◌, length, take, drop, Some, None, refl, sym, ap, subst, ◌∙◌, inl, inr, ◌⊎◌, append_assoc, arith, length-append}
use Rattle.std.proofs.lemmas.List.{append-nil, take-append-drop}
use Rattle.lin_ldf.specs.Stream.{Ahead, ahead_at, start_of, more, stop, stop_with, token_from}
use Rattle.lin_ldf.specs.Scanning.{piece_at}
use Rattle.lin_ldf.specs.Advance.{place_behind, first_place}
use Rattle.lin_ldf.specs.Tokens.{AreTokensIn, IsFaultIn, BeginsBad, BeginsOpenComment, BeginsOpenText, mark_len, behind_mark}
use Rattle.lin_ldf.specs.declared.token.Token.{Token}
use Rattle.lin_ldf.specs.declared.lexer.Scanned.{Scanned}
use Rattle.lin_ldf.specs.declared.lexer.Scanned.TheVariants as pieces
use Rattle.lin_ldf.specs.declared.fault.LdfFault.{LdfFault}
use Rattle.lin_ldf.specs.declared.fault.LdfFault.TheVariants.{BadByte, OpenComment, OpenText, OutOfMemory}
use Rattle.lin_parts.specs.declared.place.Location.{Location}
use Rattle.lin_ldf.proofs.CutLaws.{GoesOn, at_start, gap_goes_on, token_goes_on, nothing_left, stands_at}
use Rattle.lin_ldf.proofs.Pieces.{Found, found}
use Rattle.lin_ldf.proofs.Ranges.{form_length}
use Rattle.lin_ldf.proofs.Stream.{gap_at, token_at, bad_byte_at, open_comment_at, open_text_at, nothing_ahead}

abbrev pub HasTokens : ℕ → List ℕ → List Token → Ahead → Type 0
HasTokens start text before r = AreTokensIn start text (before ++ r.tokens) × (r.fault ≡ None)

abbrev pub HasFault : List ℕ → Ahead → Type 0
HasFault text r = (e : LdfFault) × IsFaultIn text e × (e ≢ OutOfMemory) × (r.fault ≡ Some e) × (ts : List Token) × (p : Location) × (r.tokens ≡ ts ++ stop p ∷ [])

abbrev pub Outcome : ℕ → List ℕ → List Token → Ahead → Type 0
Outcome start text before r = HasTokens start text before r ⊎ HasFault text r

abbrev AtMost : ℕ → List ℕ → ℕ → Type 0
AtMost start text n = (before : List Token) (at : ℕ) (place : Location) (rest : List ℕ) → length rest ≤ n → GoesOn text start before at place rest → Outcome start text before (ahead_at 0 at place rest)

one_more : (start : ℕ) (text : List ℕ) (before : List Token) (t : Token) (r : Ahead) → Outcome start text (before ++ t ∷ []) r → Outcome start text before (more t r)
one_more start text before t r (inl (are, none)) = inl (subst (AreTokensIn start text) (append_assoc before (t ∷ []) r.tokens) are, none)
one_more start text before t r (inr (f, is, other, some, ts, p, same)) = inr (f, is, other, some, t ∷ ts, p, ap (λ (ys : List Token). t ∷ ys) same)

stops : (start : ℕ) (text : List ℕ) (before : List Token) (e : LdfFault) (p : Location) (r : Ahead) → r ≡ stop_with e p → IsFaultIn text e → e ≢ OutOfMemory → Outcome start text before r
stops start text before e p r same is other = inr (e, is, other, ap (λ (x : Ahead). x.fault) same, [], p, ap (λ (x : Ahead). x.tokens) same)

fewer : (rest p after : List ℕ) (m : ℕ) → p ++ after ≡ rest → 0 < length p → length rest ≤ suc m → length after ≤ m
fewer rest p after m e some le =
    let size : length p + length after ≡ length rest = sym (length-append p after) ∙ ap length e in
    omega arith

some_bytes : (n : ℕ) (rest : List ℕ) → 0 < length (take n rest) → 0 < n
some_bytes zero rest h = h
some_bytes (suc n) rest h = omega arith

one_piece : (start : ℕ) (text : List ℕ) (m : ℕ) → AtMost start text m → (before : List Token) (at : ℕ) (place : Location) (c : ℕ) (cs : List ℕ) → length (c ∷ cs) ≤ suc m → GoesOn text start before at place (c ∷ cs)
    → (s : Scanned) → piece_at c cs ≡ s → Found s (c ∷ cs) → Outcome start text before (ahead_at 0 at place (c ∷ cs))
one_piece start text m later before at place c cs le g (pieces.Gap n) h piece =
    let p : List ℕ = take n (c ∷ cs) in
    let after : List ℕ = drop n (c ∷ cs) in
    let split : p ++ after ≡ c ∷ cs = take-append-drop n (c ∷ cs) in
    let some : 0 < length p = form_length None p piece.form in
    let whole = later before (at + length p) (place_behind place p) after (fewer (c ∷ cs) p after m split some le) (gap_goes_on text start before at place (c ∷ cs) p after g (sym split) piece) in
    subst (Outcome start text before) (sym (gap_at at place c cs n (some_bytes n (c ∷ cs) some) h)) whole
one_piece start text m later before at place c cs le g (pieces.Token k n) h piece =
    let p : List ℕ = take n (c ∷ cs) in
    let after : List ℕ = drop n (c ∷ cs) in
    let split : p ++ after ≡ c ∷ cs = take-append-drop n (c ∷ cs) in
    let some : 0 < length p = form_length (Some k) p piece.form in
    let t : Token = token_from k at (length p) place in
    let whole = later (before ++ t ∷ []) (at + length p) (place_behind place p) after (fewer (c ∷ cs) p after m split some le) (token_goes_on text start before at place (c ∷ cs) p after k g (sym split) piece) in
    subst (Outcome start text before) (sym (token_at k at place c cs n (some_bytes n (c ∷ cs) some) h)) (one_more start text before t _ whole)
one_piece start text m later before at place c cs le g pieces.BadByte h bad =
    stops start text before (BadByte place) place _ (bad_byte_at at place c cs h) (stands_at text start before at place (c ∷ cs) BeginsBad g bad) (λ e. absurd cc)
one_piece start text m later before at place c cs le g pieces.OpenComment h begun =
    stops start text before (OpenComment place) place _ (open_comment_at at place c cs h) (stands_at text start before at place (c ∷ cs) BeginsOpenComment g begun) (λ e. absurd cc)
one_piece start text m later before at place c cs le g pieces.OpenText h begun =
    stops start text before (OpenText place) place _ (open_text_at at place c cs h) (stands_at text start before at place (c ∷ cs) BeginsOpenText g begun) (λ e. absurd cc)

all_pieces : (start : ℕ) (text : List ℕ) (n : ℕ) → AtMost start text n
all_pieces start text n before at place [] le g =
    subst (Outcome start text before) (sym (nothing_ahead 0 at place)) (inl (nothing_left text start (before ++ []) at place [] (subst (λ (ts : List Token). GoesOn text start ts at place []) (sym (append-nil before)) g) refl, refl))
all_pieces start text zero before at place (c ∷ cs) le g = absurd (omega arith)
all_pieces start text (suc m) before at place (c ∷ cs) le g =
    one_piece start text m (all_pieces start text m) before at place c cs le g (piece_at c cs) refl (found c cs)

pub outcome : (source : List ℕ) → Outcome (mark_len source) (behind_mark source) [] (start_of source)
outcome source = all_pieces (mark_len source) (behind_mark source) (length (behind_mark source)) [] (mark_len source) first_place (behind_mark source) (omega arith) (at_start (behind_mark source) (mark_len source))
