use Rattle.std.proofs.Common.{◌+◌, ◌∙◌, ap, arith, drop, filter, map, not, sym}
use Rattle.std.specs.Prelude.{codes}
use Rattle.std.specs.List.{list_any}
use Rattle.lin_tool.specs.campaign.Row.{is_same_loss}
use Rattle.lin_tool.specs.Separated.{with_separators}
use Rattle.lin_tool.specs.campaign.Text.{loss_text}
use Rattle.lin_tool.specs.declared.campaign.row.LostMessage.{LostMessage}
use Rattle.lin_tool.proofs.CampaignTexts.{at-item, kept-end, kept-next, kept-not}
use Rattle.lin_tool.proofs.Remaining.{none-put, put-more, put-whole, same-rest}
use Rattle.lin_tool.proofs.campaign.text.put_losses.Goals.{then-not-has_lost, else-not-has_lost}
use Rattle.lin_tool.proofs.campaign.text.put_losses.Goals as goal

pub loop-one-init : goal.loop-one-init
loop-one-init g c = none-put c.args.out.now _

pub loop-one-preserved : goal.loop-one-preserved
loop-one-preserved g c =
    let f = loss_text c.args.cluster.now in
    let known = c.args.known.now in
    let p = λ (x : LostMessage). not (list_any (λ y. is_same_loss y x) known) in
    let xs = c.args.lost.now in
    let i = c.loop-one.one-index in
    let mark = c.loop-one.mark.now in
    let other = codes ", " in
    let rest = with_separators other other (map f (filter p (drop (i + 1) xs))) in
    elim c.if-not-has_lost.branch [
      | then-not-has_lost w ↦
          rw (w.out-is, w.mark-is)
          (put-more rest
          (put-more _ (same-rest (kept-next f p mark other xs i _ (at-item xs i _ (omega arith)) (ap not (sym c.has_lost.ensures ∙ w.if-not-has_lost.true))) c.loop-one.invariant) w.put.ensures)
          w.put_loss.ensures)
      | else-not-has_lost w ↦
          rw (w.out-is, w.mark-is)
          (same-rest (kept-not f p mark other xs i _ (at-item xs i _ (omega arith)) (ap not (sym c.has_lost.ensures ∙ w.if-not-has_lost.false))) c.loop-one.invariant)
    ]

pub returns : goal.returns
returns g c =
    let known = c.args.known.now in
    put-whole
    (same-rest (kept-end (loss_text c.args.cluster.now) (λ (x : LostMessage). not (list_any (λ y. is_same_loss y x) known)) c.loop-one.mark.now (codes ", ") c.args.lost.now c.loop-one.one-index (omega arith))
    c.loop-one.invariant)
