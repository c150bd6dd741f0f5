use Rattle.lin_text.proofs.Growing.{grows-more, same-growth}
use Rattle.lin_values.proofs.Powers.{fraction-is}
use Rattle.lin_values.proofs.decimals.put_fraction.Goals as goal

pub returns-then-places-gt0 : goal.returns-then-places-gt0
returns-then-places-gt0 g c =
    same-growth (fraction-is c.args.places c.args.number c.if-places-gt0.true) (grows-more c.put_byte.ensures c.put_last_digits.ensures)
