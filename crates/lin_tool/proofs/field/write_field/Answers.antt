use Rattle.std.proofs.Common.{◌≡◌, ◌∙◌}
use Rattle.lin_tool.proofs.FieldTexts.{all_lent, plain_unchecked, plain_done, plain_begun}
use Rattle.lin_tool.proofs.field.write_field.Goals as goal

pub returns-in-Ok-2 : goal.returns-in-Ok-2
returns-in-Ok-2 g c =
    let (settled, over) = rw c.as_mut_slice.ensures.value at c.in_ok-settled.ensures in
    let left : c.as_slice-in-Ok.result.now ≡ c.settled_noted.new.bytes =
    c.as_slice-in-Ok.ensures.value ∙ all_lent _ c.settled_noted.new.bytes _ (c.settled_noted.auto.bytes ∙ c.as_mut_slice.ensures.len) in
    plain_done _ _ c.args.bytes.items c.settled_noted.new.bytes c.in_ok-settled.settled settled over c.in-Ok.ensures.free
    _ left _ c.in-Ok-2.is c.in_ok-write_plain-in-Ok.ensures.text

pub returns-in-Ok : goal.returns-in-Ok
returns-in-Ok g c =
    let (settled, over) = rw c.as_mut_slice.ensures.value at c.in_ok-settled.ensures in
    let left : c.as_slice-in-Ok.result.now ≡ c.settled_noted.new.bytes =
    c.as_slice-in-Ok.ensures.value ∙ all_lent _ c.settled_noted.new.bytes _ (c.settled_noted.auto.bytes ∙ c.as_mut_slice.ensures.len) in
    plain_begun _ _ c.args.bytes.items c.settled_noted.new.bytes c.in_ok-settled.settled _ settled over c.in-Ok.ensures.free
    _ left _ c.in-Err-2.is c.in_ok-write_plain-in-Ok.ensures.text

pub returns : goal.returns
returns g c =
    let (settled, over) = rw c.as_mut_slice.ensures.value at c.in_ok-settled.ensures in
    plain_unchecked _ _ c.in-Err.fault c.args.bytes.items c.in_ok-settled.settled settled c.in-Err.ensures
