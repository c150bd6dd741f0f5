-- Tokens that are read over without their texts and places.
use Rattle.std.specs.Prelude.{◌≡◌, ℕ, ◌+◌, ◌≤◌, List, length, Some, false}
use Rattle.lin_ldf.specs.Stream.{ahead_at}
use Rattle.lin_ldf.specs.Symbols.{Symbol, symbols_in}
use Rattle.lin_ldf.specs.UpTo.{end_at, is_end, depth_behind}
use Rattle.lin_ldf.specs.declared.lexer.Scanned.{Scanned}
use Rattle.lin_ldf.specs.declared.lexer.Scanned.TheVariants as pieces
use Rattle.lin_ldf.specs.declared.token.TokenKind.{TokenKind}
use Rattle.lin_parts.specs.declared.place.Location.{Location}

-- a piece of so many bytes is read over on the way to an `end`, and behind it so many braces are open
abbrev pub SkipsPiece : TokenKind → ℕ → Scanned → ℕ → ℕ → Type 0
SkipsPiece end depth (pieces.Gap k) size n = (size ≡ k) × (n ≡ depth)
SkipsPiece end depth (pieces.Token kind k) size n =
    (size ≡ k) × (is_end end depth kind ≡ false) × (depth_behind depth kind ≡ Some n)
SkipsPiece end depth piece size n = ⊥

-- what is ahead before and behind tokens that are read over: an `end` stands behind them where it
-- stands in all; there are no more tokens, and one less for each brace more that is open
pub record Over (end : TokenKind) (depth : ℕ) (n : ℕ) (before : List Symbol) (behind : List Symbol)
    : Type 0 where
  pub ends : end_at end depth before ≡ end_at end n behind
  pub fewer : length behind ≤ length before
  pub counted : n + length behind ≤ depth + length before

-- the tokens of so many bytes at the front of a text are read over, wherever the text stands
abbrev pub Skims : TokenKind → ℕ → List ℕ → ℕ → ℕ → Type 0
Skims end depth text size n = (source : List ℕ) (at : ℕ) (p : Location)
    → Over end depth n (symbols_in source (ahead_at 0 at p text).tokens)
    (symbols_in source (ahead_at size at p text).tokens)
