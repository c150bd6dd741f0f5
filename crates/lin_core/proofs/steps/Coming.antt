-- Which slot comes next, by what is kept.
use Rattle.std.proofs.Common.{◌≡◌, ℕ, List, length, ap, sym, ◌∙◌, subst}
use Rattle.std.specs.Prelude.{Some, None, slice_index_or, Bool, not, ◌==◌, nat_lt, Option, option_map, cond, is_some, ◌||◌}
use Rattle.lin_parts.specs.Cluster.{line_of}
use Rattle.lin_parts.specs.declared.parts.Entry.{Entry}
use Rattle.lin_schedule.specs.Due.{due_for}
use Rattle.lin_schedule.specs.Walker.{Position}
use Rattle.lin_schedule.specs.declared.due.Due.{Due}
use Rattle.lin_schedule.proofs.Clusters.{line-entry}
use Rattle.lin_core.specs.History.{is_sleep_asked, open_slot}
use Rattle.lin_core.specs.Links.{waiting}
use Rattle.lin_core.specs.Next.{next_slot, slot_at}
use Rattle.lin_core.specs.Slots.{header, next_due}
use Rattle.lin_core.specs.kept.Slots.{HasDue, header_of, slot_in}
use Rattle.lin_core.specs.kept.State.{IsConsistent, Stage}
use Rattle.lin_core.specs.declared.host.Host.{Host}
use Rattle.lin_core.proofs.kept.Keeping.{queue-length}
use Rattle.lin_core.proofs.slots.Opening.{has-due, header-due}
use Rattle.lin_core.proofs.steps.Making.{commander-at, flags-inside, past_in, waits-by}

-- what is due is there
pub due-there : (a : Stage) (flags : List Bool) (due : Due) → IsConsistent a → due ≡ due_for a.cluster flags (line_of a.cluster a.state.walker.place.0 a.state.walker.place.1).entry → HasDue a.cluster due
due-there a flags due w e =
    subst (HasDue a.cluster) (sym e)
    (has-due a.cluster flags (line_of a.cluster a.state.walker.place.0 a.state.walker.place.1).entry w.rules (line-entry a.cluster w.rules a.state.walker.place w.kept.walks.place))

pub next-kept : (a : Stage) (host : Host) (waits : Bool) (place : ℕ × ℕ) (due : Due) → IsConsistent a → a.state.slot ≡ None → host ≡ slice_index_or a.state.hosts.items 0 host
    → waits ≡ (not (length host.queue.items == 0) || a.state.bus.asked) → place ≡ a.state.walker.place
    → due ≡ due_for a.cluster a.state.signals.pending.items (line_of a.cluster a.state.walker.place.0 a.state.walker.place.1).entry
    → Some (place.0, place.1, header_of a.cluster waits due) ≡ next_slot a.cluster a.opening (past_in a)
next-kept a host waits place due w shut e b at d =
    let past = past_in a in
    let here : ℕ × ℕ = a.state.walker.place in
    let kind : Entry = (line_of a.cluster here.0 here.1).entry in
    let n = queue-length a.cluster a.capacity a.log past 0 host (w.kept.each_host 0 host (commander-at a host w e)) in
    let waiting_is : (nat_lt 0 (length (waiting a.cluster past 0)) || is_sleep_asked past) ≡ waits
    = ap (λ (x : Bool). x || is_sleep_asked past) (waits-by (length host.queue.items) (length (waiting a.cluster past 0)) n) ∙ ap (λ (x : Bool). not (length host.queue.items == 0) || x) (sym w.late.bus_is.asked_is) ∙ sym b in
    let head : header_of a.cluster waits due ≡ header a.cluster past kind
    = ap (header_of a.cluster waits) d ∙ header-due a.cluster past a.state.signals.pending.items waits kind (flags-inside a w shut) waiting_is in
    let none : open_slot past ≡ None = sym w.kept.slot_is ∙ ap (option_map slot_in) shut in
    let next : here ≡ next_due a.cluster a.opening past = ap (λ (p : Position). p.place) w.kept.stands in
    let one : (place.0, place.1, header_of a.cluster waits due) ≡ slot_at a.cluster past here
    = ap (λ (p : ℕ × ℕ). (p.0, p.1, header_of a.cluster waits due)) at ∙ ap (λ (h : Option ℕ). (here.0, here.1, h)) head in
    ap (λ s. Some s) (one ∙ ap (slot_at a.cluster past) next)
    ∙ sym (ap (λ o. cond (is_some o) None (Some (slot_at a.cluster past (next_due a.cluster a.opening past)))) none)
