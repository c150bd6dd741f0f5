use Rattle.std.proofs.Common.{◌∙◌, ◌++◌, ap, arith, map, sym}
use Rattle.std.specs.Borrow.{Bor}
use Rattle.lin_bench.specs.declared.got.Judgement.{Judgement}
use Rattle.lin_export.proofs.Slots.{drop-next}
use Rattle.lin_tool.proofs.CampaignChecks.{unwanted-more, wanted-more}
use Rattle.lin_tool.proofs.campaign.checks.first_checks.Goals as goal
use Rattle.lin_tool.proofs.campaign.checks.first_checks.Goals.{then-is_wanted+in_ok-add_first, else-is_wanted}

pub loop-one-preserved : goal.loop-one-preserved
loop-one-preserved c =
    let x = c.args.cluster.now in
    let failed = c.args.failed in
    let js = c.args.judgements.now in
    let i = c.loop-one.one-index in
    let j = c.one-item.result in
    let next = drop-next js i j c.one-item.is (omega arith) in
    let shown = map (λ (b : Bor Judgement). b.now) c.loop-one.firsts.items in
    let before = c.loop-one.before.items in
    elim c.if-is_wanted.branch [
      | then-is_wanted+in_ok-add_first w ↦
          rw (w.firsts-is, w.before-is)
          (wanted-more x failed before _ shown _ js i j next (sym c.is_wanted.ensures ∙ w.if-is_wanted.true) w.in_ok-add_first.ensures.firsts w.in_ok-add_first.ensures.before ∙ c.loop-one.invariant)
      | else-is_wanted w ↦
          rw (w.firsts-is, w.before-is)
          (ap (λ l. shown ++ l) (unwanted-more x failed before js i j next (sym c.is_wanted.ensures ∙ w.if-is_wanted.false)) ∙ c.loop-one.invariant)
    ]
