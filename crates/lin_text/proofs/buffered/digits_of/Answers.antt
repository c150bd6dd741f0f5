use Rattle.std.proofs.Common.{refl}
use Rattle.hex.specs.Hex.{encode_with}
use Rattle.lin_text.proofs.Digits.{pairs-at}
use Rattle.lin_text.proofs.buffered.digits_of.Goals as goal

pub returns : goal.returns
unfolding encode_with
returns c =
    let p = pairs-at c.args.byte c.ranges.byte.fits in
    rw (c.from-from.ensures, p.0, p.1) refl
