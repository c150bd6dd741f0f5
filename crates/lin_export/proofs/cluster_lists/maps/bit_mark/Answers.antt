use Rattle.std.proofs.Common.{◌≤◌, ◌∙◌, Some, sym}
use Rattle.std.proofs.lemmas.Bool.{le-ltb}
use Rattle.lin_frame.specs.Bits.{first_bit}
use Rattle.lin_export.proofs.Maps.{placed-bit}
use Rattle.lin_export.proofs.cluster_lists.maps.bit_mark.Goals as goal

pub returns-in-Some : goal.returns-in-Some
returns-in-Some c =
    let layout = c.args.layout.now in
    let after : first_bit layout ≤ c.args.bit = rw c.first_bit.ensures at c.if-bit-first_bit.false in
    let place = rw c.as_slice.ensures at c.place_with.ensures in
    c.mark.ensures
    ∙ sym (placed-bit layout c.args.bit (Some c.in-Some.number) (le-ltb c.args.bit (first_bit layout) after) (sym place ∙ c.in-Some.is))
