use Rattle.std.proofs.Common.{◌≡◌, length}
use Rattle.lin_ldf.specs.Stream.{IsReady, start_of, still}
use Rattle.lin_ldf.proofs.Stream.{added}
use Rattle.lin_ldf.proofs.lexer.lex.Given as goal

abbrev pub invariant-loop-tokens : goal.invariant-loop-tokens
invariant-loop-tokens l = record {
  ahead : start_of l.source ≡ added l.tokens.items (still l.lexer);
  ready : IsReady l.lexer;
}

abbrev pub decreases-loop-tokens : goal.decreases-loop-tokens
decreases-loop-tokens l = length (still l.lexer).tokens
