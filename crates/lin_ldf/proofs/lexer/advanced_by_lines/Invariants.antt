use Rattle.std.proofs.Common.{◌≡◌, ◌+◌, ◌≤◌, length}
use Rattle.lin_ldf.specs.Advance.{place_behind}
use Rattle.lin_ldf.proofs.lexer.advanced_by_lines.Given as goal

abbrev pub invariant-loop-rest : goal.invariant-loop-rest
invariant-loop-rest l = record {
  place : place_behind l.place l.rest ≡ place_behind l.fn.from l.piece;
  line : l.place.line + length l.rest ≤ l.fn.from.line + length l.piece;
  column : l.place.column + length l.rest ≤ l.fn.from.column + length l.piece;
}

abbrev pub decreases-loop-rest : goal.decreases-loop-rest
decreases-loop-rest l = length l.rest
