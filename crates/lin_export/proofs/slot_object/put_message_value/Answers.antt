use Rattle.std.proofs.Common.{◌≡◌, true, sym, ap, ◌∙◌}
use Rattle.lin_export.specs.Jsonl.{is_message_frame}
use Rattle.lin_export.proofs.Objects.{grows-two, is-message}
use Rattle.lin_text.proofs.Growing.{same-growth}
use Rattle.lin_export.proofs.slot_object.put_message_value.Goals as goal

pub returns : goal.returns
returns g c = λ count are.
    let x = c.args.cluster.now in
    let put = c.args.put.now in
    let frame : is_message_frame c.args.header put.1 ≡ true
    = ap (is_message_frame c.args.header) (sym c.as_slice.ensures.items) ∙ sym c.is_message_frame.ensures ∙ c.if-not-is_message_frame.false in
    let number : c.from-number.result ≡ count put.0 = c.from-number.ensures ∙ c.last_number.ensures count are in
    same-growth (sym (is-message x count c.args.header put frame))
    (grows-two (rw c.node_name.ensures at c.put_first.ensures) (rw number at c.put_member.ensures) c.put_byte.ensures)
