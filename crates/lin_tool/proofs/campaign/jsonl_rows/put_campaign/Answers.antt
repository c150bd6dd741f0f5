use Rattle.std.proofs.Common.{◌∷◌, ◌++◌, [], ap}
use Rattle.std.specs.Prelude.{codes}
use Rattle.lin_export.specs.Csv.{after_comma}
use Rattle.lin_export.specs.Json.{member, quoted_text}
use Rattle.lin_log.proofs.Ends.{grows-last}
use Rattle.lin_text.proofs.Growing.{grows-more, same-growth}
use Rattle.lin_export.proofs.Objects.{grows-member}
use Rattle.lin_export.proofs.Puttings.{puts-all}
use Rattle.lin_tool.specs.campaign.Jsonl.{expectation_objects, decimal_member, printable_member}
use Rattle.lin_tool.specs.campaign.Shown.{row_data}
use Rattle.lin_tool.proofs.CampaignTexts.{array-between, broke-before, puts-behind, same-puts}
use Rattle.lin_tool.proofs.campaign.jsonl_rows.put_campaign.Goals as goal

pub returns-in_err-put_expectations : goal.returns-in_err-put_expectations
returns-in_err-put_expectations g c =
    let x = c.args.shown.now.core.now.cluster in
    let p = row_data c.args.shown.now in
    let ms =
    decimal_member (codes "version") 1
    ∷ printable_member (codes "script") c.args.size.script.now
    ∷ decimal_member (codes "slots") p.row.slots
    ∷ decimal_member (codes "faults") c.args.size.singles
    ∷ decimal_member (codes "rows") c.args.size.rows
    ∷ []
    in
    let type = 123 ∷ member (codes "type") (quoted_text (codes "campaign")) in
    same-puts (ap (λ l. type ++ l) (array-between ms [] (codes "lines") (expectation_objects x p.log p.judgements) (codes "}\n")))
    (puts-behind c.put_type.ensures
    (puts-behind
    (grows-more c.put_member.ensures
    (grows-more (same-growth (ap (λ t. after_comma (printable_member (codes "script") t)) c.as_bytes.ensures.value) c.put_member-2.ensures)
    (grows-more (grows-member (codes "slots") c.put_key.ensures c.put_number.ensures) (grows-more c.put_member-3.ensures (grows-last c.put_member-4.ensures)))))
    (puts-behind (grows-more c.put_key-2.ensures c.put_byte.ensures)
    (broke-before (codes "]}\n") c.from_residual.ensures.0 (rw (c.cluster-cluster.ensures, c.log-log.ensures.entries) at c.put_expectations.ensures)))))

pub returns : goal.returns
returns g c =
    let x = c.args.shown.now.core.now.cluster in
    let p = row_data c.args.shown.now in
    let ms =
    decimal_member (codes "version") 1
    ∷ printable_member (codes "script") c.args.size.script.now
    ∷ decimal_member (codes "slots") p.row.slots
    ∷ decimal_member (codes "faults") c.args.size.singles
    ∷ decimal_member (codes "rows") c.args.size.rows
    ∷ []
    in
    let type = 123 ∷ member (codes "type") (quoted_text (codes "campaign")) in
    let put = rw (c.in_ok-put_expectations.was, c.cluster-cluster.ensures, c.log-log.ensures.entries) at c.put_expectations.ensures in
    puts-all (ap (λ l. type ++ l) (array-between ms [] (codes "lines") (expectation_objects x p.log p.judgements) (codes "}\n")))
    (grows-more c.put_type.ensures
    (grows-more
    (grows-more c.put_member.ensures
    (grows-more (same-growth (ap (λ t. after_comma (printable_member (codes "script") t)) c.as_bytes.ensures.value) c.put_member-2.ensures)
    (grows-more (grows-member (codes "slots") c.put_key.ensures c.put_number.ensures) (grows-more c.put_member-3.ensures (grows-last c.put_member-4.ensures)))))
    (grows-more (grows-more c.put_key-2.ensures c.put_byte.ensures) (grows-more (same-growth put.all put.grows) c.put_text.ensures))))
