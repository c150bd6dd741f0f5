use Rattle.std.proofs.Common.{◌++◌, ◌∷◌, sym, ap, ◌∙◌, codes}
use Rattle.lin_text.proofs.Growing.{grows-more, same-growth}
use Rattle.lin_export.proofs.ColumnNames.{plain-cell, quoted-cell, unit-doubled, unit-needs}
use Rattle.lin_export.proofs.meaning_cells.put_unit_name.Goals as goal

pub returns-then-either_needs_quotes : goal.returns-then-either_needs_quotes
returns-then-either_needs_quotes g c =
    let name = c.args.name.now in
    let unit = c.args.unit.now in
    same-growth (ap (λ l. 34 ∷ l) (sym (unit-doubled name unit)) ∙ quoted-cell (name ++ (codes " [" ++ (unit ++ codes "]"))) (unit-needs name unit ∙ sym c.if-either_needs_quotes.ensures))
    (grows-more c.put_byte.ensures
    (grows-more c.put_doubled.ensures (grows-more c.put.ensures (grows-more c.put_doubled-then-either_needs_quotes.ensures c.put-then-either_needs_quotes.ensures))))

pub returns-else-either_needs_quotes : goal.returns-else-either_needs_quotes
returns-else-either_needs_quotes g c =
    let name = c.args.name.now in
    let unit = c.args.unit.now in
    same-growth (plain-cell (name ++ (codes " [" ++ (unit ++ codes "]"))) (unit-needs name unit ∙ sym c.if-either_needs_quotes.ensures))
    (grows-more c.put-else-either_needs_quotes.ensures
    (grows-more c.put-else-either_needs_quotes-2.ensures (grows-more c.put-else-either_needs_quotes-3.ensures c.put_byte-else-either_needs_quotes.ensures)))
