use Rattle.std.proofs.Common.{◌∙◌, List, ap, map}
use Rattle.lin_parts.specs.declared.description.Attributes.{Attributes}
use Rattle.lin_ldf.specs.declared.token.Token.{Token}
use Rattle.lin_text.proofs.Growing.{grows-more, same-growth}
use Rattle.lin_field.specs.Plain.{blocks_text, tables_part}
use Rattle.lin_field.proofs.plain.Plain.put_tables_part.Goals as goal

pub returns : goal.returns
returns g c =
    let i = c.self.invariant in
    let source = c.self.inside.source.now in
    let blocks = c.as_slice.result.now in
    let same =
    ap (λ (l : List Attributes). blocks_text source l (map (λ p. p.now) blocks)) c.attributes-blocks.ensures
    ∙ ap (λ (ps : List (List Token)). blocks_text source c.self.inside.description.now.attributes ps) (ap (map (λ p. p.now)) c.as_slice.ensures.value ∙ i.1) in
    same-growth (ap tables_part c.self.view_is)
    (grows-more (same-growth same c.put_blocks.ensures)
    (grows-more (rw (c.tables.ensures, c.as_slice-2.ensures.value, c.as_slice-3.ensures.value, i.3, i.2) at c.put_tables.ensures)
    (rw (c.as_slice-4.ensures.value, i.0) at c.put_other_sections.ensures)))
