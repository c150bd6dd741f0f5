use Rattle.std.proofs.Common.{◌∙◌, ◌∷◌, ◌++◌, [], ap, append-nil, flat_map}
use Rattle.std.specs.Prelude.{codes}
use Rattle.lin_export.specs.Csv.{after_comma}
use Rattle.lin_log.proofs.Ends.{grows-last}
use Rattle.lin_text.proofs.Growing.{grows-more, same-growth}
use Rattle.lin_export.proofs.Puttings.{puts-all}
use Rattle.lin_tool.specs.campaign.Jsonl.{failure_objects, ended_members, decimal_member, outcome_members, word_member}
use Rattle.lin_tool.specs.campaign.Shown.{row_data}
use Rattle.lin_tool.proofs.CampaignTexts.{array-between, broke-before, puts-behind, same-puts}
use Rattle.lin_tool.proofs.campaign.jsonl_rows.put_outcome.Goals as goal

pub returns-in_err-put_all_failed : goal.returns-in_err-put_all_failed
returns-in_err-put_all_failed g c =
    let x = c.args.shown.now.core.now.cluster in
    let p = row_data c.args.shown.now in
    let verdict = c.args.verdict.now in
    let ms = decimal_member (codes "missed") p.row.missed ∷ word_member (codes "verdict") verdict ∷ [] in
    let ns = ended_members x p in
    let failed = failure_objects x p.judgements in
    let whole = array-between ms ns (codes "unmet") failed [] ∙ append-nil (flat_map after_comma (outcome_members x verdict p)) in
    same-puts whole
    (puts-behind
    (grows-more c.put_member.ensures
    (grows-last (same-growth (ap (λ t. after_comma (word_member (codes "verdict") t)) c.as_bytes.ensures.value) c.put_member-2.ensures)))
    (puts-behind (grows-more c.put_key.ensures c.put_byte.ensures)
    (broke-before (93 ∷ (flat_map after_comma ns ++ [])) c.from_residual.ensures.0 (rw c.cluster.ensures at c.put_all_failed.ensures))))

pub returns : goal.returns
returns g c =
    let x = c.args.shown.now.core.now.cluster in
    let p = row_data c.args.shown.now in
    let verdict = c.args.verdict.now in
    let ms = decimal_member (codes "missed") p.row.missed ∷ word_member (codes "verdict") verdict ∷ [] in
    let ns = ended_members x p in
    let failed = failure_objects x p.judgements in
    let whole = array-between ms ns (codes "unmet") failed [] ∙ append-nil (flat_map after_comma (outcome_members x verdict p)) in
    let put = rw (c.in_ok-put_all_failed.was, c.cluster.ensures) at c.put_all_failed.ensures in
    puts-all whole
    (grows-more
    (grows-more c.put_member.ensures
    (grows-last (same-growth (ap (λ t. after_comma (word_member (codes "verdict") t)) c.as_bytes.ensures.value) c.put_member-2.ensures)))
    (grows-more (grows-more c.put_key.ensures c.put_byte.ensures)
    (grows-more (same-growth put.all put.grows) (grows-more c.put_byte-2.ensures (grows-last c.put_ended.ensures)))))
