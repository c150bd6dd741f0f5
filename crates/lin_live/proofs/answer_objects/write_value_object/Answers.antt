use Rattle.std.proofs.Common.{refl}
use Rattle.lin_live.proofs.Writing.{written-whole}
use Rattle.lin_live.proofs.answer_objects.write_value_object.Goals as goal

pub returns : goal.returns
returns g c = (written-whole _ _ _ _ (rw c.in_ok-write_said.was at c.write_said.ensures), refl)
