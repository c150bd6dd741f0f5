-- What the end of a slot leaves inside a core.
use Rattle.std.proofs.Common.{◌≡◌, ◌∙◌, ℕ, List, [], ◌∷◌, ◌++◌, ap, length, refl, subst, sym}
use Rattle.std.specs.Prelude.{Option, Some, slice_get}
use Rattle.std.specs.Global.{Vec}
use Rattle.lin_parts.specs.declared.parts.Parts.{Parts}
use Rattle.lin_core.specs.declared.receivers.Receivers.{Receivers}
use Rattle.lin_core.specs.kept.State.{Keeps, ClosesSlot, IsConsistent, Stage}
use Rattle.lin_core.specs.kept.Hosts.{KeepsHost}
use Rattle.lin_core.specs.kept.Slots.{slot_in}
use Rattle.lin_core.specs.kept.Bus.{KeepsBus}
use Rattle.lin_core.specs.Replies.{finish_events}
use Rattle.lin_core.specs.Slots.{moves, ready_responses, responses_after}
use Rattle.lin_core.specs.History.{Slot, open_slot}
use Rattle.lin_core.specs.kept.Ready.{KeepsReady}
use Rattle.lin_core.specs.declared.event.Event.{Event}
use Rattle.lin_core.proofs.steps.Known.{entry_is}
use Rattle.lin_core.specs.declared.step.Step.TheVariants.{Finish}
use Rattle.lin_core.specs.declared.host.Host.{Host}
use Rattle.lin_core.specs.declared.log.LogEntry.{LogEntry}
use Rattle.lin_core.specs.declared.port.PortId.{PortId}
use Rattle.lin_core.specs.declared.slot.OpenSlot.{OpenSlot}
use Rattle.lin_core.specs.declared.state.State.{State}
use Rattle.lin_core.proofs.kept.Keeping.{finished_entry, finish-keeps}
use Rattle.lin_core.proofs.steps.Making.{OpenIs, past_in}
use Rattle.lin_core.proofs.kept.Bus.{finish-bus}

-- the entry of the finish
abbrev pub finish_of : Stage → PortId → LogEntry
finish_of a by = finished_entry a.cluster (past_in a) by

-- what the receivers are doesn't matter
pub passes-as : (c : Parts) (slot : OpenSlot) (old new : State) (rs : Vec Receivers) → ClosesSlot c slot (record old { receivers = rs }) new → ClosesSlot c slot old new
passes-as c slot old new rs p = record { shut = p.shut; clock = p.clock; few = p.few; stands = p.stands; walks = p.walks; signals = p.signals; bus = p.bus; ready = p.ready; ready_few = p.ready_few }

pub passed-keeps : (a : Stage) (by : PortId) (o : OpenIs a by) (new : State) (hosts : List Host) → IsConsistent a → ClosesSlot a.cluster o.slot a.state new → length hosts ≡ length a.state.hosts.items
    → ((h : ℕ) (host : Host) → slice_get hosts h ≡ Some host → KeepsHost a.cluster a.capacity (a.log ++ finish_of a by ∷ []) (finish_of a by ∷ past_in a) h host)
    → Keeps a.cluster a.opening a.capacity (a.log ++ finish_of a by ∷ []) (finish_of a by ∷ past_in a) new.slot new.time new.walker hosts new.signals
passed-keeps a by o new hosts w p count each =
    rw p.shut
    (finish-keeps a.cluster a.opening a.capacity a.log (past_in a) o.slot a.state.time new.time a.state.walker new.walker a.state.hosts.items hosts a.state.signals new.signals by
    (record { clock_is = p.clock; few = p.few; stands = p.stands a.opening (moves (past_in a)) w.kept.stands; walks = p.walks })
    p.signals count each
    (subst (λ (s : Option OpenSlot). Keeps a.cluster a.opening a.capacity a.log (past_in a) s a.state.time a.state.walker a.state.hosts.items a.state.signals) o.at w.kept))

pub passed-bus : (a : Stage) (by : PortId) (o : OpenIs a by) (new : State) → IsConsistent a → ClosesSlot a.cluster o.slot a.state new → KeepsBus a.cluster (finish_of a by ∷ past_in a) new.bus
passed-bus a by o new w p = rw p.bus (finish-bus a.cluster (past_in a) by (finish_events a.cluster by (past_in a)) (slot_in o.slot) a.state.bus o.is w.late.bus_is)

-- the responses that are ready after a finish
finish-ready : (c : Parts) (past : List LogEntry) (by : PortId) (es : List Event) (s : Slot) → open_slot past ≡ Some s → ready_responses c (entry_is by Finish es ∷ past) ≡ responses_after c s (ready_responses c past)
finish-ready c past by es s is = rw is refl

pub passed-ready : (a : Stage) (by : PortId) (o : OpenIs a by) (new : State) → IsConsistent a → ClosesSlot a.cluster o.slot a.state new → KeepsReady a.cluster (finish_of a by ∷ past_in a) new.ready.items
passed-ready a by o new w p = (
  p.ready ∙ ap (responses_after a.cluster (slot_in o.slot)) w.ready.0 ∙ sym (finish-ready a.cluster (past_in a) by (finish_events a.cluster by (past_in a)) (slot_in o.slot) o.is),
  p.ready_few,
)
