use Rattle.std.proofs.Common.{◌≡◌, ◌∙◌, ap, sym}
use Rattle.std.specs.Prelude.{None}
use Rattle.lin_parts.specs.Cluster.{line_of, sporadic_of}
use Rattle.lin_parts.specs.declared.parts.Entry.TheVariants.{Sporadic}
use Rattle.lin_parts.specs.declared.parts.Line.{Line}
use Rattle.lin_tool.specs.declared.campaign.finished_slots.KeptSlot.{KeptSlot}
use Rattle.lin_tool.proofs.CampaignSlots.{find-nothing}
use Rattle.lin_tool.proofs.campaign.finished_slots.KeptSlot.frame.Goals as goal

pub returns-in-None : goal.returns-in-None
returns-in-None c = λ s is.
    let x = c.args.cluster.now in
    let entry : (line_of x s.table s.entry).entry ≡ Sporadic c.in-Sporadic.sporadic = ap (λ (k : KeptSlot). (line_of x k.table k.entry).entry) (sym is) ∙ sym (ap (λ (l : Line). l.entry) c.line_at.ensures.line) ∙ c.in-Sporadic.is in
    let header : s.header ≡ None = ap (λ (k : KeptSlot). k.header) (sym is) ∙ c.in-None.is in
    rw (entry, header) (sym (find-nothing (sporadic_of x c.in-Sporadic.sporadic)))
