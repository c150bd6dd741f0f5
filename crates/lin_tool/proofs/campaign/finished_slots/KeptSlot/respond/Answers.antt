use Rattle.std.proofs.Common.{◌≡◌, ◌+◌, arith, min}
use Rattle.lin_tool.proofs.CampaignSlots.{answered-by, kept-put}
use Rattle.lin_tool.proofs.campaign.finished_slots.KeptSlot.respond.Goals as goal

pub returns : goal.returns
returns c = λ s answer is.
    let k = c.args.self.now in
    let count : c.saturating_add-self.result ≡ min (k.responses + 1) 255 = omega (arith, c.saturating_add-self.ensures) in
    kept-put s c.args.node answer k c.with_node-self.result c.or-self.result c.saturating_add-self.result is
    (answered-by s c.args.node answer k c.with_node-self.result is c.with_node-self.ensures) c.or-self.ensures count
