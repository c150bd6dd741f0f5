use Rattle.std.proofs.Common.{◌≡◌, ◌-◌, length}
use Rattle.lin_ldf.specs.Stream.{IsReady, still}
use Rattle.lin_ldf.proofs.lexer.Lexer.next_common.Given as goal

abbrev pub invariant-loop-lexer : goal.invariant-loop-lexer
invariant-loop-lexer l = record {
  ahead : still l.lexer ≡ still l.fn.self;
  source : l.lexer.source.now ≡ l.fn.self.source.now;
  ready : IsReady l.lexer;
}

abbrev pub decreases-loop-lexer : goal.decreases-loop-lexer
decreases-loop-lexer l = length l.lexer.source.now - l.lexer.offset
