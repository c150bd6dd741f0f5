use Rattle.std.proofs.Common.{◌≡◌, List, ap, refl, ◌∙◌, subst, sym}
use Rattle.std.specs.Prelude.{Bool, Option, None, Some, false, is_some, not, ◌||◌}
use Rattle.lin_parts.specs.Cluster.{line_of}
use Rattle.lin_schedule.specs.Due.{due_for}
use Rattle.lin_core.specs.Core.{CoreData, past_of}
use Rattle.lin_core.specs.Next.{next_slot}
use Rattle.lin_core.specs.kept.State.{stage}
use Rattle.lin_core.proofs.steps.Coming.{due-there, next-kept}
use Rattle.lin_core.proofs.machine.Core.next_slot.Goals as goal

pub header_of-requires : goal.header_of-requires
header_of-requires c = due-there (stage c.self.inside.setup c.self.inside.log c.self.inside.state) c.as_slice.result.now c.due-due.result c.self.invariant c.due-due.ensures.entry

none-from : {X : Type 0} (o : Option X) → is_some o ≡ false → o ≡ None
none-from None h = refl
none-from (Some x) h = absurd (cc)

pub returns : goal.returns
returns c =
    let a = stage c.self.inside.setup c.self.inside.log c.self.inside.state in
    let due : c.due-due.result ≡ due_for a.cluster a.state.signals.pending.items (line_of a.cluster a.state.walker.place.0 a.state.walker.place.1).entry
    = c.due-due.ensures.entry ∙ ap (λ (bs : List Bool). due_for a.cluster bs (line_of a.cluster a.state.walker.place.0 a.state.walker.place.1).entry) c.as_slice.ensures.value in
    subst (λ (d : CoreData). Some (c.place-place.result.0, c.place-place.result.1, c.header_of.result) ≡ next_slot d.cluster d.opening (past_of d)) c.self.view_is
    (rw c.header_of.ensures
    (next-kept a c.index.result.now c.has_request-requests.result c.place-place.result c.due-due.result c.self.invariant (none-from a.state.slot (sym c.is_open.ensures ∙ c.if-is_open.false)) c.index.ensures
    (c.has_request-requests.ensures ∙ ap (λ (b : Bool). not b || a.state.bus.asked) c.is_empty-waits.ensures) c.place-place.ensures.value due))
