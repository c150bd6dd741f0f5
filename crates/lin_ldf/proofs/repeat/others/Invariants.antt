use Rattle.std.proofs.Common.{◌≡◌, fold, length}
use Rattle.lin_ldf.specs.Words.{others}
use Rattle.lin_ldf.proofs.SeveralSteps.{with_front}
use Rattle.lin_ldf.proofs.repeat.others.Given as goal

abbrev pub invariant-loop-parser : goal.invariant-loop-parser
invariant-loop-parser g l =
    let i = g.I.ItemForm.items in
    record {
      read : with_front l.items.items ((others i.next i.form l.state).read l.parser) ≡ (others i.next i.form l.fn.state).read l.fn.parser;
      state : l.state ≡ fold i.next l.fn.state l.items.items;
    }

abbrev pub decreases-loop-parser : goal.decreases-loop-parser
decreases-loop-parser g l = length l.parser
