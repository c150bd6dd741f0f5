use Rattle.std.proofs.Common.{◌≡◌, ◌+◌, ◌≤◌, List, false, max}
use Rattle.std.specs.Io.KnownBytes.{Keeps}
use Rattle.lin_bench.specs.declared.line.ScriptLine.{ScriptLine}
use Rattle.lin_bench.specs.declared.place.LinePlace.{LinePlace}
use Rattle.lin_tool.specs.campaign.Steps.{SaysLines, end_part_row, first_disturbed, first_part_row}
use Rattle.lin_tool.proofs.CampaignEnds.{WroteUpTo}
use Rattle.lin_tool.proofs.campaign.Campaign.write_rows.Given as goal

abbrev pub invariant-loop-number : goal.invariant-loop-number
invariant-loop-number g l = record {
  same : l.handed ≡ l.fn.cluster;
  rows : l.counts.rows + first_disturbed (first_part_row l.table) ≡ l.number;
  few : l.number ≤ max (end_part_row l.table) (first_disturbed (first_part_row l.table));
  quiet : l.table.is_watched ≡ false → Keeps (g.E.Write.contents l.initial.errors) (g.E.Write.contents l.errors);
  wrote :
      (ls : List (LinePlace × ScriptLine)) → SaysLines l.self l.fn.cluster ls
      → WroteUpTo l.self l.table l.fn.cluster ls l.number l.initial.counts l.counts (g.W.Write.contents l.initial.writer) (g.W.Write.contents l.writer);
}
