use Rattle.lin_text.proofs.Growing.{grows-more}
use Rattle.lin_export.proofs.Objects.{grows-member}
use Rattle.lin_export.proofs.check_object.encodings.put_coefficient.Goals as goal

pub put_decimal-requires : goal.put_decimal-requires
put_decimal-requires g c = c.decimal.ensures.limits.0

pub returns : goal.returns
returns g c =
    grows-member c.args.key.now c.put_key.ensures (grows-more c.put_byte.ensures (grows-more (rw c.decimal.ensures.same at c.put_decimal.ensures) c.put_byte-2.ensures))
