use Rattle.std.proofs.Common.{List, ℕ, ◌∙◌, ◌+◌, ◌<◌, ◌∷◌, [], ap, arith, drop, length, map, refl}
use Rattle.std.specs.Borrow.{Bor}
use Rattle.lin_bench.specs.declared.got.Judgement.{Judgement}
use Rattle.lin_text.proofs.Growing.{same-growth}
use Rattle.lin_export.proofs.Puttings.{puts-all}
use Rattle.lin_export.proofs.Slots.{drop-next}
use Rattle.lin_tool.specs.Junit.{xml_text}
use Rattle.lin_tool.specs.Placing.{moment_of, placed_missed}
use Rattle.lin_tool.specs.Separated.{with_separators}
use Rattle.lin_tool.proofs.CampaignTexts.{marked-end, marked-next}
use Rattle.lin_tool.proofs.Remaining.{left-out, none-put, put-more, put-whole, same-rest}
use Rattle.lin_tool.proofs.campaign.junit.put_failures.Goals as goal

pub loop-one-init : goal.loop-one-init
loop-one-init g c = record {
  put = none-put c.args.out.now _;
  told = c.new-moment.ensures c.args.cluster.now;
  time = rw (c.new-moment.ensures c.args.cluster.now) (omega arith);
  count = rw (c.new-moment.ensures c.args.cluster.now) (omega arith);
  few = omega arith;
}

pub returns-in_err-missed : goal.returns-in_err-missed
returns-in_err-missed g c = left-out _ c.from_residual.ensures.0 c.loop-one.invariant.put

pub loop-one-preserved : goal.loop-one-preserved
loop-one-preserved g c =
    let log = c.args.log.now.entries in
    let f = λ (j : Bor Judgement). xml_text (placed_missed c.args.names.script.now c.args.names.files.now c.args.cluster.now log j.now) in
    let js = c.args.failed.now in
    let i = c.loop-one.one-index in
    let other : List ℕ = 10 ∷ [] in
    let rest = with_separators other other (map f (drop (i + 1) js)) in
    let there : i < length js = omega arith in
    let told = c.at-moment.ensures.told ∙ ap (moment_of c.args.cluster.now) c.within-entries.ensures.same in
    let missed = c.as_slice.ensures.value ∙ c.in_ok-missed.ensures log told in
    record {
      put =
          put-more rest
          (put-more _ (same-rest (marked-next f c.loop-one.mark.now other js i _ (drop-next js i c.one-item.result c.one-item.is there)) c.loop-one.invariant.put) c.put.ensures)
          (same-growth (ap xml_text missed) c.put_escaped.ensures);
      told = c.at-moment.ensures.told;
      time = c.at-moment.ensures.time;
      count = c.at-moment.ensures.count;
      few = c.within-entries.ensures.there;
    }

pub returns : goal.returns
returns g c =
    puts-all refl
    (put-whole
    (same-rest
    (marked-end (λ (j : Bor Judgement). xml_text (placed_missed c.args.names.script.now c.args.names.files.now c.args.cluster.now c.args.log.now.entries j.now)) c.loop-one.mark.now (10 ∷ []) c.args.failed.now c.loop-one.one-index (omega arith))
    c.loop-one.invariant.put))
