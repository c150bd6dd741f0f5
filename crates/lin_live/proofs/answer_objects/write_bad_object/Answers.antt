use Rattle.std.proofs.Common.{refl}
use Rattle.lin_live.proofs.Writing.{written-whole}
use Rattle.lin_live.proofs.answer_objects.write_bad_object.Goals as goal

pub returns : goal.returns
returns g c = λ x k. (
  written-whole _ _ _ _ (rw (c.as_slice.ensures.value, c.in_ok-text.ensures, c.in_ok-write_object.was) at c.write_object.ensures),
  refl,
)
