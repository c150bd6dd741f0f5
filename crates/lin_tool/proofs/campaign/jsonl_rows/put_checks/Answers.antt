use Rattle.std.proofs.Common.{◌∙◌, ◌+◌, ap, arith, drop, map, refl, sym}
use Rattle.std.specs.Prelude.{codes}
use Rattle.std.specs.Borrow.{Bor}
use Rattle.lin_bench.specs.declared.got.Judgement.{Judgement}
use Rattle.lin_export.proofs.Puttings.{puts-all}
use Rattle.lin_export.proofs.Slots.{drop-next}
use Rattle.lin_tool.specs.Placing.{moment_of}
use Rattle.lin_tool.specs.campaign.Jsonl.{expectation}
use Rattle.lin_tool.specs.Separated.{with_separators}
use Rattle.lin_tool.proofs.CampaignTexts.{commas, marked-end, marked-next}
use Rattle.lin_tool.proofs.Remaining.{broke-off, none-put, put-all, put-more, put-whole, same-rest}
use Rattle.lin_tool.proofs.campaign.jsonl_rows.put_checks.Goals as goal

pub loop-one-init : goal.loop-one-init
loop-one-init g c = record {
  put = same-rest (sym (commas (map (λ (j : Bor Judgement). expectation c.args.cluster.now c.args.log.now.entries j.now) c.args.checks.now))) (none-put c.args.out.now _);
  told = c.new-moment.ensures c.args.cluster.now;
  time = rw (c.new-moment.ensures c.args.cluster.now) (omega arith);
  count = rw (c.new-moment.ensures c.args.cluster.now) (omega arith);
  few = omega arith;
}

pub returns-in_err-put_expectation : goal.returns-in_err-put_expectation
returns-in_err-put_expectation g c =
    let log = c.args.log.now.entries in
    let f = λ (j : Bor Judgement). expectation c.args.cluster.now log j.now in
    let js = c.args.checks.now in
    let i = c.loop-one.one-index in
    let other = codes "," in
    let rest = with_separators other other (map f (drop (i + 1) js)) in
    let told = c.at-moment.ensures.told ∙ ap (moment_of c.args.cluster.now) c.within-entries.ensures.same in
    broke-off rest c.from_residual.ensures.0
    (put-more _ (same-rest (marked-next f c.loop-one.mark.now other js i _ (drop-next js i c.one-item.result c.one-item.is (omega arith))) c.loop-one.invariant.put) c.put.ensures) (c.put_expectation.ensures log told)

pub loop-one-preserved : goal.loop-one-preserved
loop-one-preserved g c =
    let log = c.args.log.now.entries in
    let f = λ (j : Bor Judgement). expectation c.args.cluster.now log j.now in
    let js = c.args.checks.now in
    let i = c.loop-one.one-index in
    let other = codes "," in
    let rest = with_separators other other (map f (drop (i + 1) js)) in
    let told = c.at-moment.ensures.told ∙ ap (moment_of c.args.cluster.now) c.within-entries.ensures.same in
    let one = rw c.in_ok-put_expectation.was at (c.put_expectation.ensures log told) in
    record {
      put =
          put-all rest
          (put-more _ (same-rest (marked-next f c.loop-one.mark.now other js i _ (drop-next js i c.one-item.result c.one-item.is (omega arith))) c.loop-one.invariant.put) c.put.ensures) one;
      told = c.at-moment.ensures.told;
      time = c.at-moment.ensures.time;
      count = c.at-moment.ensures.count;
      few = c.within-entries.ensures.there;
    }

pub returns : goal.returns
returns g c =
    let f = λ (j : Bor Judgement). expectation c.args.cluster.now c.args.log.now.entries j.now in
    puts-all refl
    (put-whole (same-rest (marked-end f c.loop-one.mark.now (codes ",") c.args.checks.now c.loop-one.one-index (omega arith)) c.loop-one.invariant.put))
