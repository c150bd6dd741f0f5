use Rattle.std.proofs.Common.{sym, arith}
use Rattle.lin_text.proofs.Growing.{grows-more, same-growth, texts-next}
use Rattle.lin_export.specs.Csv.{doubled_quote}
use Rattle.lin_export.proofs.meaning_cells.put_doubled.Goals as goal

pub loop-byte-preserved : goal.loop-byte-preserved
loop-byte-preserved g c =
    same-growth (sym (texts-next doubled_quote c.args.text.now c.loop-byte.byte-index 0 (omega arith))) (grows-more c.loop-byte.invariant c.put_doubled_byte.ensures)
