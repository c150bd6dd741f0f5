use Rattle.std.proofs.Common.{drop, map}
use Rattle.std.specs.Prelude.{codes}
use Rattle.lin_export.specs.Json.{with_commas}
use Rattle.lin_tool.specs.campaign.Jsonl.{refusal_object}
use Rattle.lin_tool.specs.Separated.{with_separators}
use Rattle.lin_tool.proofs.Remaining.{PutsUpTo}
use Rattle.lin_tool.proofs.campaign.jsonl_rows.put_refusals.Given as goal

abbrev pub invariant-loop-one : goal.invariant-loop-one
invariant-loop-one g l =
    PutsUpTo g.W.Write.contents l.initial.out l.out (with_commas (map refusal_object l.steps)) (with_separators l.mark (codes ",") (map refusal_object (drop l.one-index l.steps)))
