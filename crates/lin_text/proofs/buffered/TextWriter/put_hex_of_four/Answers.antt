use Rattle.std.proofs.Common.{refl}
use Rattle.hex.specs.Hex.{encode_with}
use Rattle.lin_text.proofs.Growing.{same-growth}
use Rattle.lin_text.proofs.buffered.TextWriter.put_hex_of_four.Goals as goal

pub returns : goal.returns
unfolding encode_with
returns g c = same-growth (rw (c.digits_of.ensures, c.digits_of-2.ensures, c.digits_of-3.ensures, c.digits_of-4.ensures) refl) c.put_array.ensures
