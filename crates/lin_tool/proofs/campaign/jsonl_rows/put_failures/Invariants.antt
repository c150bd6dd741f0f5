use Rattle.std.proofs.Common.{drop, map}
use Rattle.std.specs.Prelude.{codes}
use Rattle.std.specs.Borrow.{Bor}
use Rattle.lin_bench.specs.declared.got.Judgement.{Judgement}
use Rattle.lin_export.specs.Json.{with_commas}
use Rattle.lin_tool.specs.campaign.Jsonl.{failure_object}
use Rattle.lin_tool.specs.Separated.{with_separators}
use Rattle.lin_tool.proofs.Remaining.{PutsUpTo}
use Rattle.lin_tool.proofs.campaign.jsonl_rows.put_failures.Given as goal

abbrev pub invariant-loop-one : goal.invariant-loop-one
invariant-loop-one g l =
    PutsUpTo g.W.Write.contents l.initial.out l.out (with_commas (map (λ (j : Bor Judgement). failure_object l.cluster j.now) l.failed))
    (with_separators l.mark (codes ",") (map (λ (j : Bor Judgement). failure_object l.cluster j.now) (drop l.one-index l.failed)))
