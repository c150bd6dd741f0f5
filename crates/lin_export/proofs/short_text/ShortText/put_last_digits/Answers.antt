use Rattle.std.proofs.Common.{◌-◌, ◌%◌, ◌^◌, ◌/◌, ◌+◌, ◌++◌, ◌∷◌, [], ap, sym, ◌∙◌, append_assoc, arith}
use Rattle.lin_values.specs.Shown.{last_digits}
use Rattle.lin_values.proofs.Powers.{digits-step, rest-below}
use Rattle.lin_export.proofs.ShortAdded.{adds-more}
use Rattle.lin_export.proofs.short_text.ShortText.put_last_digits.Goals as goal

pub loop-left-preserved : goal.loop-left-preserved
loop-left-preserved c =
    let rest = c.loop-left.rest in
    let left = c.loop-left.left in
    let some = c.loop-left.invariant.put.0 in
    let first = 48 + rest / 10 ^ (left - 1) in
    let more = last_digits (left - 1) (rest % 10 ^ (left - 1)) in
    rw c.ten_to-power.ensures (record {
      put = (
        some ++ (first ∷ []),
        adds-more c.loop-left.invariant.put.1 (rw c.ten_to-power.ensures at c.put_byte.ensures),
        c.loop-left.invariant.put.2 ∙ ap (λ t. some ++ t) (digits-step left rest (omega arith)) ∙ sym (append_assoc some (first ∷ []) more),
      );
      few = omega arith;
      fits = rest-below (left - 1) rest;
    })
