use Rattle.std.proofs.Common.{List, flat_map}
use Rattle.std.specs.Prelude.{filter}
use Rattle.lin_frame.specs.Words.{numbers}
use Rattle.lin_text.specs.Written.{Grows}
use Rattle.lin_tool.specs.campaign.Summary.{AreCountsOf, NumberedRow, is_counted, line_count_text, rows_of}
use Rattle.lin_tool.proofs.campaign.summary.RowCounts.put_lines.Given as goal

abbrev pub invariant-loop-line : goal.invariant-loop-line
invariant-loop-line g l =
    (rows : List NumberedRow) → AreCountsOf l.script.judgements.now rows l.self
    → Grows g.W.Write.contents l.initial.out l.out (flat_map (line_count_text l.script.name.now l.script.cluster.now l.script.judgements.now (rows_of rows)) (filter (is_counted l.script.judgements.now (rows_of rows)) (numbers l.line)))
