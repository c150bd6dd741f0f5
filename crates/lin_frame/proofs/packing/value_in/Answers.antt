use Rattle.std.proofs.Common.{◌/◌, ap, sym, ◌∙◌, take}
use Rattle.std.specs.Int.{w64, to_le_bytes}
use Rattle.lin_frame.specs.declared.value.Value.TheVariants.{Scalar, Bytes}
use Rattle.lin_frame.proofs.PlacedValues.{array_read, scalar_read}
use Rattle.lin_frame.proofs.packing.value_in.Goals as goal

pub returns-then-place : goal.returns-then-place
returns-then-place c =
    let p = c.args.place in
    ap Bytes (c.bytes_of_word.ensures ∙ ap (λ x. take (p.size / 8) (to_le_bytes w64 x)) c.take_bits-word.ensures)
    ∙ sym (array_read p c.args.bytes.now c.from_le_bytes.result c.requires c.if-place.true c.told-bytes c.fits-bytes c.from_le_bytes.ensures)

pub returns-else-place : goal.returns-else-place
returns-else-place c =
    ap Scalar c.take_bits-word.ensures
    ∙ sym (scalar_read c.args.place c.args.bytes.now c.from_le_bytes.result c.requires c.if-place.false c.told-bytes c.fits-bytes c.from_le_bytes.ensures)
