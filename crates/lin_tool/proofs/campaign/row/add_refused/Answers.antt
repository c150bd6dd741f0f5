use Rattle.std.proofs.Common.{◌≡◌, ◌∙◌, ◌++◌, List, ap, append_assoc, arith, drop, length}
use Rattle.std.proofs.lemmas.Grind.{common_steps}
use Rattle.lin_tool.specs.campaign.Row.{new_refusal, refusal_on}
use Rattle.lin_tool.specs.declared.campaign.row.RefusedStep.{RefusedStep}
use Rattle.lin_tool.proofs.CampaignPlays.{drop-front, refused-next}
use Rattle.lin_tool.proofs.campaign.row.add_refused.Goals as goal

pub loop-index-preserved : goal.loop-index-preserved
loop-index-preserved c =
    let (added, items, whole) = c.loop-index.invariant in
    let before = c.len-before.result in
    let old = c.args.refused.now.items in
    let log = c.args.log.now.entries in
    let i = c.loop-index.index in
    let n = c.args.line in
    let reply = c.entry.result.now.reply in
    let few : before ≡ length old = grind (arith, common_steps) in
    let front : drop before c.loop-index.refused.items ≡ added = ap (λ l. drop before l) items ∙ drop-front old added before few in
    let pushed = rw c.in_ok-add_refusal.was at c.add_refusal.ensures in
    let new : List RefusedStep = new_refusal (drop before c.loop-index.refused.items) (refusal_on n reply) in
    let same : new ≡ new_refusal added (refusal_on n reply) = ap (λ l. new_refusal l (refusal_on n reply)) front in (
      added ++ new,
      pushed ∙ ap (λ l. l ++ new) items ∙ append_assoc old added new,
      refused-next added new n log c.args.to i c.entry.result.now c.entry.ensures (omega (arith, c.min-index-end.ensures)) (grind (arith, common_steps, c.min-index-end.ensures, c.len.ensures.len)) same ∙ whole,
    )
