use Rattle.std.proofs.Common.{◌+◌, arith, drop, map, refl, sym}
use Rattle.std.specs.Prelude.{codes}
use Rattle.std.specs.Borrow.{Bor}
use Rattle.lin_bench.specs.declared.got.Judgement.{Judgement}
use Rattle.lin_export.proofs.Puttings.{puts-all}
use Rattle.lin_export.proofs.Slots.{drop-next}
use Rattle.lin_tool.specs.campaign.Jsonl.{failure_object}
use Rattle.lin_tool.specs.Separated.{with_separators}
use Rattle.lin_tool.proofs.CampaignTexts.{commas, marked-end, marked-next}
use Rattle.lin_tool.proofs.Remaining.{broke-off, none-put, put-all, put-more, put-whole, same-rest}
use Rattle.lin_tool.proofs.campaign.jsonl_rows.put_failures.Goals as goal

pub loop-one-init : goal.loop-one-init
loop-one-init g c =
    same-rest (sym (commas (map (λ (j : Bor Judgement). failure_object c.args.cluster.now j.now) c.args.failed.now))) (none-put c.args.out.now _)

pub returns-in_err-put_failed : goal.returns-in_err-put_failed
returns-in_err-put_failed g c =
    let f = λ (j : Bor Judgement). failure_object c.args.cluster.now j.now in
    let js = c.args.failed.now in
    let i = c.loop-one.one-index in
    let other = codes "," in
    let rest = with_separators other other (map f (drop (i + 1) js)) in
    broke-off rest c.from_residual.ensures.0
    (put-more _ (same-rest (marked-next f c.loop-one.mark.now other js i _ (drop-next js i c.one-item.result c.one-item.is (omega arith))) c.loop-one.invariant) c.put.ensures) c.put_failed.ensures

pub loop-one-preserved : goal.loop-one-preserved
loop-one-preserved g c =
    let f = λ (j : Bor Judgement). failure_object c.args.cluster.now j.now in
    let js = c.args.failed.now in
    let i = c.loop-one.one-index in
    let other = codes "," in
    let rest = with_separators other other (map f (drop (i + 1) js)) in
    let one = rw c.in_ok-put_failed.was at c.put_failed.ensures in
    put-all rest
    (put-more _ (same-rest (marked-next f c.loop-one.mark.now other js i _ (drop-next js i c.one-item.result c.one-item.is (omega arith))) c.loop-one.invariant) c.put.ensures) one

pub returns : goal.returns
returns g c =
    let f = λ (j : Bor Judgement). failure_object c.args.cluster.now j.now in
    puts-all refl
    (put-whole (same-rest (marked-end f c.loop-one.mark.now (codes ",") c.args.failed.now c.loop-one.one-index (omega arith)) c.loop-one.invariant))
