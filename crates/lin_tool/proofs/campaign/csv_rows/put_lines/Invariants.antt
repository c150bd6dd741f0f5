use Rattle.std.proofs.Common.{drop, map}
use Rattle.std.specs.Prelude.{codes}
use Rattle.std.specs.Fmt.{decimal}
use Rattle.lin_tool.specs.campaign.Csv.{items}
use Rattle.lin_tool.specs.Separated.{with_separators}
use Rattle.lin_tool.proofs.Remaining.{PutsUpTo}
use Rattle.lin_tool.proofs.campaign.csv_rows.put_lines.Given as goal

abbrev pub invariant-loop-line : goal.invariant-loop-line
invariant-loop-line g l =
    PutsUpTo g.W.Write.contents l.initial.out l.out (items (map decimal l.lines)) (with_separators l.mark (codes ";") (map decimal (drop l.line-index l.lines)))
