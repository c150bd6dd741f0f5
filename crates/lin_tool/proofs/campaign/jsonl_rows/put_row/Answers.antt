use Rattle.std.proofs.Common.{◌∷◌, ◌++◌, ap, map}
use Rattle.std.specs.Prelude.{codes}
use Rattle.lin_export.specs.Json.{json_array, member, quoted_text}
use Rattle.lin_text.proofs.Growing.{grows-more, same-growth}
use Rattle.lin_export.proofs.Objects.{grows-member}
use Rattle.lin_export.proofs.Puttings.{puts-all}
use Rattle.lin_tool.specs.campaign.FaultNames.{fault_text}
use Rattle.lin_tool.specs.campaign.Jsonl.{decimal_member, single_members, verdict_members}
use Rattle.lin_tool.specs.campaign.Shown.{row_data}
use Rattle.lin_tool.proofs.CampaignTexts.{broke-before, members-parts, puts-behind, same-puts}
use Rattle.lin_tool.proofs.campaign.jsonl_rows.put_row.Goals as goal

pub returns-in_err-put_verdict : goal.returns-in_err-put_verdict
returns-in_err-put_verdict g c =
    let x = c.args.shown.now.core.now.cluster in
    let p = row_data c.args.shown.now in
    let faults = member (codes "faults") (json_array (map (λ f. quoted_text (fault_text x f)) p.faults)) in
    let ms = decimal_member (codes "row") p.number ∷ faults ∷ single_members x p.single in
    let type = 123 ∷ member (codes "type") (quoted_text (codes "row")) in
    same-puts (ap (λ l. type ++ l) (members-parts ms (verdict_members x p p.row.verdict) (codes "}\n")))
    (puts-behind c.put_type.ensures
    (puts-behind
    (grows-more c.put_member.ensures
    (grows-more (grows-member (codes "faults") c.put_key.ensures (rw c.cluster-cluster.ensures at c.put_fault_array.ensures)) (rw c.cluster-cluster.ensures at c.put_place.ensures)))
    (broke-before (codes "}\n") c.from_residual.ensures.0 c.put_verdict.ensures)))

pub returns : goal.returns
returns g c =
    let x = c.args.shown.now.core.now.cluster in
    let p = row_data c.args.shown.now in
    let faults = member (codes "faults") (json_array (map (λ f. quoted_text (fault_text x f)) p.faults)) in
    let ms = decimal_member (codes "row") p.number ∷ faults ∷ single_members x p.single in
    let type = 123 ∷ member (codes "type") (quoted_text (codes "row")) in
    let put = rw c.in_ok-put_verdict.was at c.put_verdict.ensures in
    puts-all (ap (λ l. type ++ l) (members-parts ms (verdict_members x p p.row.verdict) (codes "}\n")))
    (grows-more c.put_type.ensures
    (grows-more
    (grows-more c.put_member.ensures
    (grows-more (grows-member (codes "faults") c.put_key.ensures (rw c.cluster-cluster.ensures at c.put_fault_array.ensures)) (rw c.cluster-cluster.ensures at c.put_place.ensures)))
    (grows-more (same-growth put.all put.grows) c.put_text.ensures)))
