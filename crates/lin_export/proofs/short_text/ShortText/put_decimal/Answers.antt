use Rattle.std.proofs.Common.{arith}
use Rattle.std.proofs.Math.Nat.{one-le-pow}
use Rattle.lin_values.proofs.Powers.{rest-below}
use Rattle.lin_export.proofs.ShortAdded.{adds-more}
use Rattle.lin_export.proofs.short_text.ShortText.put_decimal.Goals as goal
use Rattle.lin_export.proofs.short_text.ShortText.put_decimal.Goals.{then-d, else-d}

pub nonzero_div-d : goal.nonzero_div-d
nonzero_div-d c = rw c.ten_to-power.ensures (one-le-pow c.args.d.places 10 (omega arith))

pub nonzero_rem-d : goal.nonzero_rem-d
nonzero_rem-d c = rw c.ten_to-power.ensures (one-le-pow c.args.d.places 10 (omega arith))

pub put_fraction-requires-clause-fits : goal.put_fraction-requires-clause-fits
put_fraction-requires-clause-fits c = rw c.ten_to-power.ensures (rest-below c.args.d.places c.args.d.digits)

pub returns : goal.returns
returns c =
    let number = rw c.ten_to-power.ensures at (adds-more c.put_number.ensures c.put_fraction.ensures) in
    elim c.if-d.branch [
      | then-d w ↦ rw w.if-d.true (adds-more w.put_byte.ensures (rw w.self-is at number))
      | else-d w ↦ rw w.if-d.false (rw w.self-is at number)
    ]
