use Rattle.std.proofs.Common.{◌∙◌}
use Rattle.lin_field.proofs.PlainParts.{bytes-between}
use Rattle.lin_field.proofs.plain.text_parts.bytes_of.Goals as goal

pub returns-in-Some-Some : goal.returns-in-Some-Some
returns-in-Some-Some c =
    let ends = c.in-Some-Some in
    c.range_of.ensures
    ∙ bytes-between c.args.source.now c.args.part.now ends.first.now ends.last.now ends.ensures.item.3.0 ends.ensures.item.1 ends.ensures'.item.1
