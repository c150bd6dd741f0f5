use Rattle.std.proofs.Common.{drop, map}
use Rattle.std.specs.Prelude.{codes}
use Rattle.lin_tool.specs.campaign.Csv.{items}
use Rattle.lin_tool.specs.Separated.{with_separators}
use Rattle.lin_tool.specs.campaign.Text.{refusal_text}
use Rattle.lin_tool.proofs.Remaining.{PutsUpTo}
use Rattle.lin_tool.proofs.campaign.csv_rows.put_refusals.Given as goal

abbrev pub invariant-loop-one : goal.invariant-loop-one
invariant-loop-one g l =
    PutsUpTo g.W.Write.contents l.initial.out l.out (items (map refusal_text l.refused)) (with_separators l.mark (codes ";") (map refusal_text (drop l.one-index l.refused)))
