use Rattle.std.proofs.Common.{sym}
use Rattle.lin_text.proofs.Growing.{grows-more}
use Rattle.lin_field.proofs.plain.Plain.put_header_part.Goals as goal

pub returns : goal.returns
returns g c =
    let i = c.self.invariant in
    let parts = c.as_slice-parts.ensures.value in
    rw (sym c.self.view_is)
    (grows-more c.put_header.ensures
    (grows-more (rw (parts, i.0) at c.put_lines.ensures)
    (grows-more c.put_nodes.ensures
    (rw (parts, i.0) at c.put_sections.ensures))))
