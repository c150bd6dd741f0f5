use Rattle.std.proofs.Common.{ℕ, List, ap, refl, subst}
use Rattle.lin_text.proofs.Growing.{same-growth}
use Rattle.lin_export.specs.Putting.{PutsAll}
use Rattle.lin_export.proofs.Puttings.{puts-all}
use Rattle.lin_bench.specs.declared.files.ScriptFile.{ScriptFile}
use Rattle.lin_tool.specs.campaign.Csv.{row_text as csv_text}
use Rattle.lin_tool.specs.campaign.Junit.{row_case}
use Rattle.lin_tool.specs.campaign.Shown.{row_data}
use Rattle.lin_tool.specs.campaign.Text.{known_losses, known_refusals, row_text}
use Rattle.lin_tool.proofs.campaign.Campaign.put_row.Goals as goal

pub returns-in-Text : goal.returns-in-Text
returns-in-Text g c = rw c.in-Text.is (puts-all refl (same-growth (ap (λ k. row_text k (known_losses c.args.calm) (known_refusals c.args.calm) (row_data c.args.shown.now)) c.cluster-cluster.ensures) c.put_line.ensures))

pub returns-in-Csv : goal.returns-in-Csv
returns-in-Csv g c = rw c.in-Csv.is (puts-all refl (same-growth (ap (λ k. csv_text k (row_data c.args.shown.now)) c.cluster-cluster.ensures) c.put_line-in-Csv.ensures))

pub returns-in-Jsonl : goal.returns-in-Jsonl
returns-in-Jsonl g c = rw c.in-Jsonl.is c.put_line-in-Jsonl.ensures

pub returns-in-Html : goal.returns-in-Html
returns-in-Html g c = rw c.in-Html.is c.put_line-in-Html.ensures

pub returns-in-Junit : goal.returns-in-Junit
returns-in-Junit g c =
    let puts = λ (script : List ℕ) (files : List ScriptFile). PutsAll g.W.Write.contents c.args.out.now c.put_row.new.out c.put_row.result (row_case script files c.args.shown.now.core.now.cluster (row_data c.args.shown.now)) in
    rw c.in-Junit.is
    (subst (λ s. puts s c.args.self.now.source.files.now) c.names.ensures.0 (subst (λ fs. puts c.names.result.script.now fs) c.names.ensures.1 c.put_row.ensures))
