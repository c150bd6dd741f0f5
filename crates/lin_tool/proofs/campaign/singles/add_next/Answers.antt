use Rattle.std.proofs.Common.{◌∙◌, arith, sym}
use Rattle.lin_tool.proofs.CampaignSingles.{full-more, one-more}
use Rattle.lin_tool.proofs.campaign.singles.add_next.Goals as goal

pub returns-in_ok-add_of_slot-in-Some : goal.returns-in_ok-add_of_slot-in-Some
returns-in_ok-add_of_slot-in-Some c = λ slots next is are.
    one-more c.args.cluster.now c.args.kinds slots next c.in-Some.slot c.args.singles.now.items c.add_of_slot.new.singles.items c.args.number (sym c.in-Some.is ∙ is) (omega arith)
    (rw c.in_ok-add_of_slot-in-Some.was at c.add_of_slot.ensures) are

pub returns-in_default : goal.returns-in_default
returns-in_default c = λ slots next is are.
    full-more c.args.cluster.now c.args.kinds slots next c.in-Some.slot c.args.singles.now.items c.args.number (sym c.in-Some.is ∙ is) (omega arith) are
