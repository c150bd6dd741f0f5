use Rattle.std.proofs.Common.{◌++◌, ◌∷◌, refl, sym, ap, ◌∙◌, codes}
use Rattle.lin_text.proofs.Growing.{grows-more, same-growth}
use Rattle.lin_export.proofs.ColumnNames.{plain-cell, quoted-cell, tail-doubled, tail-needs}
use Rattle.lin_export.proofs.meaning_cells.put_value_name.Goals as goal

pub returns-then-needs_quotes : goal.returns-then-needs_quotes
returns-then-needs_quotes g c =
    let name = c.args.name.now in
    same-growth (ap (λ l. 34 ∷ l) (sym (tail-doubled name (codes " value") refl)) ∙ quoted-cell (name ++ codes " value") (tail-needs name (codes " value") refl ∙ sym c.if-needs_quotes.ensures))
    (grows-more c.put_byte.ensures (grows-more c.put_doubled.ensures c.put.ensures))

pub returns-else-needs_quotes : goal.returns-else-needs_quotes
returns-else-needs_quotes g c =
    let name = c.args.name.now in
    same-growth (plain-cell (name ++ codes " value") (tail-needs name (codes " value") refl ∙ sym c.if-needs_quotes.ensures))
    (grows-more c.put-else-needs_quotes.ensures c.put-else-needs_quotes-2.ensures)
