use Rattle.std.proofs.Common.{◌≡◌, length}
use Rattle.lin_ldf.specs.Stream.{IsReady, start_of, still}
use Rattle.lin_ldf.proofs.lexer.first_fault.Given as goal

abbrev pub invariant-loop-fault : goal.invariant-loop-fault
invariant-loop-fault l = record {
  fault : (start_of l.source).fault ≡ (still l.lexer).fault;
  ready : IsReady l.lexer;
}

abbrev pub decreases-loop-fault : goal.decreases-loop-fault
decreases-loop-fault l = length (still l.lexer).tokens
