-- The tokens of a text as the lexer gives them, one by one. The lexer computes these; no public
-- contract cites them.
use Rattle.std.specs.Prelude.{◌≡◌, ℕ, zero, suc, ◌+◌, ◌-◌, ◌≤◌, List, [], ◌∷◌, length, take, drop}
use Rattle.std.specs.Prelude.{Option, Some, None, Result, Ok, Err}
use Rattle.lin_ldf.specs.Symbols.{Symbol, symbols_in}
use Rattle.lin_ldf.specs.Scanning.{piece_at}
use Rattle.lin_ldf.specs.Advance.{step, first_place}
use Rattle.lin_ldf.specs.Tokens.{mark_len, behind_mark}
use Rattle.lin_ldf.specs.declared.fault.LdfFault.{LdfFault}
use Rattle.lin_ldf.specs.declared.fault.LdfFault.TheVariants as faults
use Rattle.lin_ldf.specs.declared.token.Token.{Token}
use Rattle.lin_ldf.specs.declared.token.TokenKind.{TokenKind}
use Rattle.lin_ldf.specs.declared.token.TokenKind.TheVariants.{Other}
use Rattle.lin_ldf.specs.declared.front.Front.{Front}
use Rattle.lin_ldf.specs.declared.lexer.Lexer.{Lexer}
use Rattle.lin_ldf.specs.declared.lexer.Scanned.TheVariants as pieces
use Rattle.lin_parts.specs.declared.place.Location.{Location}

-- what is ahead: tokens, and the fault that ends them
pub record Ahead : Type 0 where
  pub tokens : List Token
  pub fault : Option LdfFault

abbrev pub empty_ahead : Ahead
empty_ahead = record { tokens = []; fault = None }

abbrev pub more : Token → Ahead → Ahead
more t r = record { tokens = t ∷ r.tokens; fault = r.fault }

-- a token of so many bytes at this offset and place
abbrev pub token_from : TokenKind → ℕ → ℕ → Location → Token
token_from kind at n p =
    record { kind = kind; start = at; end = at + n; line = p.line; column = p.column }

-- It stands where the lexer finds a fault: no file ends in it, so none is read over it.
abbrev pub stop : Location → Token
stop p = record { kind = Other; start = 0; end = 0; line = p.line; column = p.column }

abbrev pub stop_with : LdfFault → Location → Ahead
stop_with e p = record { tokens = stop p ∷ []; fault = Some e }

-- What is ahead in a text whose first byte, after so many that are passed over, stands at this
-- offset and place.
unfoldable pub ahead_at : ℕ → ℕ → Location → List ℕ → Ahead
ahead_at n at p [] = empty_ahead
ahead_at zero at p (c ∷ cs) = elim (piece_at c cs) [
  | pieces.Gap k ↦ ahead_at (k - 1) (at + 1) (step p c) cs
  | pieces.Token kind k ↦ more (token_from kind at (length (take k (c ∷ cs))) p)
      (ahead_at (k - 1) (at + 1) (step p c) cs)
  | pieces.BadByte ↦ stop_with (faults.BadByte p) p
  | pieces.OpenComment ↦ stop_with (faults.OpenComment p) p
  | pieces.OpenText ↦ stop_with (faults.OpenText p) p
]
ahead_at (suc n) at p (c ∷ cs) = ahead_at n (at + 1) (step p c) cs

-- of a whole source
abbrev pub start_of : List ℕ → Ahead
start_of source = ahead_at 0 (mark_len source) first_place (behind_mark source)

-- ---- the lexer

abbrev pub IsReady : Lexer → Type 0
IsReady l =
    (l.offset ≤ length l.source.now) × (l.place.line ≤ l.offset + 1)
    × (l.place.column ≤ l.offset + 1)

abbrev pub still : Lexer → Ahead
still l = ahead_at 0 l.offset l.place (drop l.offset l.source.now)

-- what a call gives of what was ahead
abbrev pub Pulls : Result (Option Token) LdfFault → Lexer → Lexer → Type 0
Pulls (Ok (Some t)) old new =
    (still old ≡ more t (still new)) × (t.start ≤ t.end) × (t.end ≤ length old.source.now)
Pulls (Ok None) old new = still old ≡ empty_ahead
Pulls (Err e) old new = still old ≡ stop_with e new.place

-- the same of a call that gives some kinds of tokens alone: where it gives none, all is still ahead
abbrev pub PullsSome : Option Token → Lexer → Lexer → Type 0
PullsSome (Some t) old new = Pulls (Ok (Some t)) old new
PullsSome None old new = still old ≡ still new

-- ---- the parser

-- the next token's kind, text and place, and what is ahead of the lexer
abbrev pub symbols_left : Option TokenKind → List ℕ → Location → Lexer → List Symbol
symbols_left None text place l = []
symbols_left (Some kind) text place l =
    record { kind = kind; text = text; line = place.line; column = place.column }
    ∷ symbols_in l.source.now (still l).tokens

abbrev pub symbols_of : Front → List Symbol
symbols_of f =
    symbols_left f.kind (take f.len f.rest.now) (record { line = f.line; column = f.column }) f.lexer
