use Rattle.std.proofs.Common.{◌≡◌, ◌++◌, length}
use Rattle.lin_ldf.specs.Stream.{IsReady, start_of, still}
use Rattle.lin_field.specs.Marks.{extra_in}
use Rattle.lin_field.proofs.ExtraSteps.{extra_behind}
use Rattle.lin_field.proofs.marks.extra_marks.Given as goal

abbrev pub invariant-loop-extra : goal.invariant-loop-extra
invariant-loop-extra l = record {
  marks : extra_in (start_of l.source).tokens ≡ l.extra.items ++ extra_behind l.last (still l.lexer).tokens;
  fault : (start_of l.source).fault ≡ (still l.lexer).fault;
  ready : IsReady l.lexer;
}

abbrev pub decreases-loop-extra : goal.decreases-loop-extra
decreases-loop-extra l = length (still l.lexer).tokens
