-- Pieces that are read over, one after the other.
use Rattle.std.proofs.Common.{◌≡◌, ℕ, ◌+◌, ◌<◌, ◌≤◌, true, false, List, [], ◌∷◌, length, take, drop, Option, Some, None, refl, sym, ap, subst, ◌∙◌, arith}
use Rattle.lin_ldf.specs.Symbols.{Symbol, symbols_in}
use Rattle.lin_ldf.specs.Stream.{Ahead, ahead_at, more, still, symbols_left, symbols_of, token_from}
use Rattle.lin_ldf.specs.Scanning.{front_piece, piece_at, TakesSomeOf}
use Rattle.lin_ldf.specs.Skimming.{Over, SkipsPiece, Skims}
use Rattle.lin_ldf.specs.Advance.{place_behind}
use Rattle.lin_ldf.specs.Forms.{has_front, tail}
use Rattle.lin_ldf.specs.UpTo.{is_end, depth_behind}
use Rattle.lin_ldf.specs.declared.lexer.Scanned.{Scanned}
use Rattle.lin_ldf.specs.declared.lexer.Scanned.TheVariants as pieces
use Rattle.lin_ldf.specs.declared.lexer.Lexer.{Lexer}
use Rattle.lin_ldf.specs.declared.front.Front.{Front}
use Rattle.lin_ldf.specs.declared.token.Token.{Token}
use Rattle.lin_ldf.specs.declared.token.TokenKind.{TokenKind}
use Rattle.lin_ldf.proofs.Ending.{goes_on}
use Rattle.lin_ldf.proofs.Stream.{gap_here, passed, passed_in, token_here}
use Rattle.lin_parts.specs.declared.place.Location.{Location}

-- what is ahead on both sides of a piece
abbrev OverIn : List ℕ → TokenKind → ℕ → ℕ → Ahead → Ahead → Type 0
OverIn source end d n before behind = Over end d n (symbols_in source before.tokens) (symbols_in source behind.tokens)

over_nothing : (end : TokenKind) (d : ℕ) (ts : List Symbol) → Over end d d ts ts
over_nothing end d ts = record { ends = refl; fewer = omega arith; counted = omega arith }

over_token : (end : TokenKind) (d n : ℕ) (source : List ℕ) (t : Token) (r : Ahead) → is_end end d t.kind ≡ false → depth_behind d t.kind ≡ Some n → n ≤ d + 1
    → OverIn source end d n (more t r) r
over_token end d n source t r h b le = record {
  ends = goes_on end d n (symbols_in source (more t r).tokens) t.kind refl h b;
  fewer = omega arith;
  counted = omega (arith, le);
}

over_piece : (end : TokenKind) (d n size at : ℕ) (p : Location) (c : ℕ) (cs : List ℕ) (source : List ℕ) (s : Scanned) → piece_at c cs ≡ s → 0 < size → SkipsPiece end d s size n → n ≤ d + 1
    → OverIn source end d n (ahead_at 0 at p (c ∷ cs)) (ahead_at size at p (c ∷ cs))
over_piece end d n size at p c cs source (pieces.Gap k) e lt (same, deep) le =
    subst (λ (a : Ahead). OverIn source end d n a (ahead_at size at p (c ∷ cs))) (sym (gap_here at p c cs size lt (e ∙ ap pieces.Gap (sym same))))
    (rw deep (over_nothing end d (symbols_in source (ahead_at size at p (c ∷ cs)).tokens)))
over_piece end d n size at p c cs source (pieces.Token kind k) e lt (same, h, b) le =
    subst (λ (a : Ahead). OverIn source end d n a (ahead_at size at p (c ∷ cs))) (sym (token_here kind at p c cs size lt (e ∙ ap (pieces.Token kind) (sym same))))
    (over_token end d n source (token_from kind at (length (take size (c ∷ cs))) p) (ahead_at size at p (c ∷ cs)) h b le)
over_piece end d n size at p c cs source pieces.BadByte e lt h le = absurd h
over_piece end d n size at p c cs source pieces.OpenComment e lt h le = absurd h
over_piece end d n size at p c cs source pieces.OpenText e lt h le = absurd h

over_more : (end : TokenKind) (d m n : ℕ) (ts us vs : List Symbol) → Over end d m ts us → Over end m n us vs → Over end d n ts vs
over_more end d m n ts us vs h k = record {
  ends = h.ends ∙ k.ends;
  fewer = omega (arith, h.fewer, k.fewer);
  counted = omega (arith, h.counted, k.counted);
}

pub passes_within : (end : TokenKind) (d size n len : ℕ) (s : Scanned) → SkipsPiece end d s size n → TakesSomeOf s len → (0 < size) × (size ≤ len)
passes_within end d size n len (pieces.Gap k) (same, deep) within = rw same within
passes_within end d size n len (pieces.Token kind k) (same, h, b) within = rw same within
passes_within end d size n len pieces.BadByte h within = absurd h
passes_within end d size n len pieces.OpenComment h within = absurd h
passes_within end d size n len pieces.OpenText h within = absurd h

pub skims_nothing : (end : TokenKind) (d : ℕ) (text : List ℕ) → Skims end d text 0 d
skims_nothing end d text source at p = over_nothing end d (symbols_in source (ahead_at 0 at p text).tokens)

pub skims_more : (end : TokenKind) (d m n k size : ℕ) (text rest : List ℕ) → Skims end d text k m → rest ≡ drop k text → 0 < length rest → 0 < size → SkipsPiece end m (front_piece rest) size n → n ≤ m + 1
    → Skims end d text (k + size) n
skims_more end d m n k size text [] h e some lt passes le source at p = absurd (omega arith)
skims_more end d m n k size text (c ∷ cs) h e some lt passes le source at p =
    let at_k = at + length (take k text) in
    let p_k = place_behind p (take k text) in
    let here : ahead_at k at p text ≡ ahead_at 0 at_k p_k (c ∷ cs) = passed k 0 k at p text (omega arith) ∙ ap (ahead_at 0 at_k p_k) (sym e) in
    let there : ahead_at (k + size) at p text ≡ ahead_at size at_k p_k (c ∷ cs) = passed k size (k + size) at p text refl ∙ ap (ahead_at size at_k p_k) (sym e) in
    let over : OverIn source end m n (ahead_at k at p text) (ahead_at (k + size) at p text) =
    rw (here, there) (over_piece end m n size at_k p_k c cs source (piece_at c cs) refl lt passes le) in
    over_more end d m n (symbols_in source (ahead_at 0 at p text).tokens) (symbols_in source (ahead_at k at p text).tokens) (symbols_in source (ahead_at (k + size) at p text).tokens) (h source at p) over

-- what stands behind the next token, where the lexer is this one
behind_front : (k : Option TokenKind) (text : List ℕ) (place : Location) (l m : Lexer) → has_front (symbols_left k text place l) ≡ true
    → tail (symbols_left k text place m) ≡ symbols_in m.source.now (still m).tokens
behind_front None text place l m h = absurd cc
behind_front (Some kind) text place l m h = refl

-- the lexer of a front has passed over what is skimmed
pub skims_front : (end : TokenKind) (d n size : ℕ) (f : Front) (l : Lexer) (text : List ℕ) → has_front (symbols_of f) ≡ true → Skims end d text size n → size ≤ length text
    → text ≡ drop f.lexer.offset f.lexer.source.now → l.source.now ≡ f.lexer.source.now → l.offset ≡ f.lexer.offset + size
    → l.place ≡ place_behind f.lexer.place (take size (drop f.lexer.offset f.lexer.source.now))
    → Over end d n (tail (symbols_of f)) (tail (symbols_of (record f { lexer = l })))
skims_front end d n size f l text front skims le is_text source offset place =
    let old = f.lexer in
    let behind = behind_front f.kind (take f.len f.rest.now) (record { line = f.line; column = f.column }) in
    let fits : size ≤ length (drop old.offset old.source.now) = subst (λ (t : List ℕ). size ≤ length t) is_text le in
    let stands : ahead_at size old.offset old.place (drop old.offset old.source.now) ≡ still l =
    passed_in old.source.now old.offset size old.place fits ∙ rw (offset, place, source) refl in
    let over : OverIn old.source.now end d n (still old) (still l) =
    subst (OverIn old.source.now end d n (still old)) stands
    (subst (λ (t : List ℕ). OverIn old.source.now end d n (ahead_at 0 old.offset old.place t) (ahead_at size old.offset old.place t)) is_text (skims old.source.now old.offset old.place)) in
    let left : symbols_in old.source.now (still l).tokens ≡ tail (symbols_of (record f { lexer = l })) =
    ap (λ (s : List ℕ). symbols_in s (still l).tokens) (sym source) ∙ sym (behind old l front) in
    subst (Over end d n (tail (symbols_of f))) left
    (subst (λ (ts : List Symbol). Over end d n ts (symbols_in old.source.now (still l).tokens)) (sym (behind old old front)) over)
