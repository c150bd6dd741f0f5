use Rattle.std.proofs.Common.{◌≡◌, ◌-◌, length}
use Rattle.lin_ldf.specs.Stream.{IsReady, still}
use Rattle.lin_ldf.proofs.lexer.Lexer.next.Given as goal

abbrev pub invariant-loop-self : goal.invariant-loop-self
invariant-loop-self l = record {
  ahead : still l.self ≡ still l.fn.self;
  source : l.self.source.now ≡ l.fn.self.source.now;
  ready : IsReady l.self;
}

abbrev pub decreases-loop-self : goal.decreases-loop-self
decreases-loop-self l = length l.self.source.now - l.self.offset
