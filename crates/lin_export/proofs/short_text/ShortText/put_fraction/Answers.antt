use Rattle.lin_values.proofs.Powers.{fraction-is}
use Rattle.lin_export.proofs.ShortAdded.{adds-more, same-adds}
use Rattle.lin_export.proofs.short_text.ShortText.put_fraction.Goals as goal

pub returns-then-places-gt0 : goal.returns-then-places-gt0
returns-then-places-gt0 c =
    same-adds (fraction-is c.args.places c.args.number c.if-places-gt0.true) (adds-more c.put_byte.ensures c.put_last_digits.ensures)
