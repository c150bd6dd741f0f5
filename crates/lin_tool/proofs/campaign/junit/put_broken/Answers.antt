use Rattle.std.proofs.Common.{◌++◌, ap, ap₂, length, sym, append_assoc}
use Rattle.std.specs.Prelude.{codes}
use Rattle.std.specs.Fmt.{decimal}
use Rattle.lin_text.proofs.Growing.{grows-more, same-growth}
use Rattle.lin_export.proofs.Puttings.{puts-all}
use Rattle.lin_tool.specs.campaign.Junit.{failure_lines}
use Rattle.lin_tool.proofs.CampaignTexts.{broke-before, grows-whole, puts-behind, same-puts}
use Rattle.lin_tool.proofs.campaign.junit.put_broken.Goals as goal

pub returns-in_err-put_failed : goal.returns-in_err-put_failed
returns-in_err-put_failed g c =
    let s = c.args.shown.now in
    let behind = codes "\">" ++ (failure_lines c.args.names.script.now c.args.names.files.now s.core.now.cluster s.core.now.log s.judgements.now ++ codes "</failure>\n</testcase>\n") in
    let begin = codes ">\n<failure message=\"" in
    same-puts (ap (λ l. begin ++ l) (sym (append_assoc (decimal (length s.row.now.lines)) (codes " unmet") behind)))
    (puts-behind c.put_text.ensures
    (puts-behind (same-growth (ap (λ l. decimal (length l)) c.as_slice.ensures) c.put_number.ensures)
    (puts-behind c.put_text-2.ensures
    (broke-before (codes "</failure>\n</testcase>\n") c.from_residual.ensures.0 (same-puts (ap₂ (λ k l. failure_lines c.args.names.script.now c.args.names.files.now k l s.judgements.now) c.cluster-cluster.ensures c.log-log.ensures.entries) c.put_failed.ensures)))))

pub returns : goal.returns
returns g c =
    let s = c.args.shown.now in
    let behind = codes "\">" ++ (failure_lines c.args.names.script.now c.args.names.files.now s.core.now.cluster s.core.now.log s.judgements.now ++ codes "</failure>\n</testcase>\n") in
    let begin = codes ">\n<failure message=\"" in
    let put = grows-whole c.in_ok-put_failed.was (same-puts (ap₂ (λ k l. failure_lines c.args.names.script.now c.args.names.files.now k l s.judgements.now) c.cluster-cluster.ensures c.log-log.ensures.entries) c.put_failed.ensures) in
    puts-all (ap (λ l. begin ++ l) (sym (append_assoc (decimal (length s.row.now.lines)) (codes " unmet") behind)))
    (grows-more c.put_text.ensures
    (grows-more (same-growth (ap (λ l. decimal (length l)) c.as_slice.ensures) c.put_number.ensures)
    (grows-more c.put_text-2.ensures (grows-more put c.put_text-3.ensures))))
