use Rattle.std.proofs.Common.{sym}
use Rattle.lin_text.proofs.Growing.{grows-more, same-growth}
use Rattle.lin_export.proofs.ColumnNames.{quoted-cell}
use Rattle.lin_export.proofs.meaning_cells.put_text.Goals as goal

pub returns-then-needs_quotes : goal.returns-then-needs_quotes
returns-then-needs_quotes g c =
    same-growth (quoted-cell c.args.text.now (sym c.if-needs_quotes.ensures)) (grows-more c.put_byte.ensures (grows-more c.put_doubled.ensures c.put_byte-then-needs_quotes.ensures))
