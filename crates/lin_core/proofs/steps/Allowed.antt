-- What stands inside a core as it makes a step that is allowed.
use Rattle.std.proofs.Common.{◌≡◌, ℕ, ◌<◌, Bool, true, false, List, [], ◌∷◌, ◌++◌, length, refl, sym, ◌∙◌, subst, arith}
use Rattle.std.specs.Prelude.{Option, Some, nat_le, not, slice_get, slice_index_or}
use Rattle.std.proofs.lemmas.Bool.Decides.{nat_tests}
use Rattle.std.proofs.lemmas.List.{length-append}
use Rattle.std.proofs.lemmas.Option.{slice_get_read}
use Rattle.lin_parts.specs.Cluster.{nodes}
use Rattle.lin_core.specs.Core.{entry_with_reply}
use Rattle.lin_core.specs.History.{is_host_closed, has_decided, is_in, open_slot}
use Rattle.lin_core.specs.kept.State.{Keeps, stage_data, done_of, IsConsistent, IsExecuted, IsStepReady, Stage}
use Rattle.lin_core.specs.kept.Slots.{slot_in}
use Rattle.lin_core.specs.Replies.{done_events, is_open, refusals}
use Rattle.lin_core.specs.declared.event.Event.{Event}
use Rattle.lin_core.specs.declared.host.Host.{Host}
use Rattle.lin_core.specs.declared.log.LogEntry.{LogEntry}
use Rattle.lin_core.specs.declared.port.PortId.{PortId}
use Rattle.lin_core.specs.declared.slot.OpenSlot.{OpenSlot}
use Rattle.lin_core.specs.declared.step.Step.{Step}
use Rattle.lin_core.specs.declared.step.Step.TheVariants.{Close, Hurt, Leave}
use Rattle.lin_core.proofs.kept.Entries.{history-more, reverse-more}
use Rattle.lin_core.proofs.kept.Keeping.{done_entry, done-answered}
use Rattle.lin_core.proofs.steps.Making.{Allowed, open-some, past_in}
use Rattle.lin_core.specs.declared.state.State.{State}
use Rattle.lin_core.proofs.kept.BusAndSenders.{leave-allowed, leave-fewer}
use Rattle.lin_core.proofs.kept.Places.{get-there}
use Rattle.lin_core.proofs.steps.Steps.{none-of, not-false}

-- a host of this number
pub host-of : (a : Stage) (h : ℕ) (host : Host) → IsConsistent a → h < nodes a.cluster → host ≡ slice_index_or a.state.hosts.items h host → slice_get a.state.hosts.items h ≡ Some host
host-of a h host w there e = slice_get_read a.state.hosts.items (nodes a.cluster) h host (sym w.kept.hosts_count) there e

pub closed-host : (a : Stage) (by : PortId) (h : ℕ) (host : Host) → IsConsistent a → Allowed a by (Close h) → host ≡ slice_index_or a.state.hosts.items h host → slice_get a.state.hosts.items h ≡ Some host
closed-host a by h host w n e =
    let far : nat_le (nodes a.cluster) h ≡ false = (none-of (refusals a.cluster a.capacity (past_in a) by (Close h)) n.allowed).0
    in host-of a h host w (grind (arith, nat_tests, far)) e

-- what is kept once the entry of a step that was made is pushed
pub made-kept : (a : Stage) (by : PortId) (step : Step) (es : List Event) (new : State) (log : List LogEntry) → IsStepReady a by step → IsExecuted a by step es new → log ≡ a.log ++ done_entry by step es ∷ [] → IsConsistent (record a { log = log; state = new })
made-kept a by step es new log r m e =
    let whole : IsConsistent (record a { log = a.log ++ done_of a by step ∷ []; state = new }) = record {
      few = let few = r.few in rw length-append (omega arith);
      rules = r.whole.rules;
      sound = r.whole.sound;
      opening = r.whole.opening;
      kept = rw (reverse-more a.log (done_of a by step)) m.kept;
      late = rw (reverse-more a.log (done_of a by step)) m.late;
      heard = rw (reverse-more a.log (done_of a by step)) m.heard;
      ready = rw (reverse-more a.log (done_of a by step)) m.ready;
      history = rw (done-answered (stage_data a) by step (done_events a.cluster a.opening (past_in a) by step) r.allowed refl) (history-more (stage_data a) by step r.whole.history);
    }
    in rw (e, m.told) whole

pub made-answered : (a : Stage) (by : PortId) (step : Step) (es : List Event) (new : State) → IsStepReady a by step → IsExecuted a by step es new → done_entry by step es ≡ entry_with_reply (stage_data a) by step
made-answered a by step es new r m = done-answered (stage_data a) by step es r.allowed m.told

-- == steps in the open slot
pub record OpenNow (a : Stage) : Type 0 where
  pub slot : OpenSlot
  pub at : a.state.slot ≡ Some slot
  pub is : open_slot (past_in a) ≡ Some (slot_in slot)
  pub kept : Keeps a.cluster a.opening a.capacity a.log (past_in a) (Some slot) a.state.time a.state.walker a.state.hosts.items a.state.signals

pub open-now : (a : Stage) → IsConsistent a → not (is_open (past_in a)) ≡ false → OpenNow a
open-now a w some =
    let k = open-some a.state.slot (open_slot (past_in a)) w.kept.slot_is (not-false (is_open (past_in a)) some)
    in record {
      slot = k.0;
      at = k.1;
      is = k.2;
      kept = subst (λ (o : Option OpenSlot). Keeps a.cluster a.opening a.capacity a.log (past_in a) o a.state.time a.state.walker a.state.hosts.items a.state.signals) k.1 w.kept;
    }

pub leave-inside : (a : Stage) (by : PortId) (node : ℕ) → IsConsistent a → Allowed a by (Leave node) → OpenNow a
leave-inside a by node w n = open-now a w (none-of (refusals a.cluster a.capacity (past_in a) by (Leave node)) n.allowed).1.0

pub hurt-inside : (a : Stage) (by : PortId) (bytes : List ℕ) → IsConsistent a → Allowed a by (Hurt bytes) → OpenNow a
hurt-inside a by bytes w n = open-now a w (none-of (refusals a.cluster a.capacity (past_in a) by (Hurt bytes)) n.allowed).0

-- a node that leaves its response out has room to
pub leave-room : (a : Stage) (by : PortId) (node : ℕ) (o : OpenNow a) → Allowed a by (Leave node) → length o.slot.left.items < 16
leave-room a by node o n =
    let past : List LogEntry = past_in a
    in let may = leave-allowed a.cluster a.capacity past by node n.allowed
    in let due : is_in o.slot.due.items node ≡ true = rw o.is at may.0
    in let decided : has_decided (slot_in o.slot) node ≡ false = rw o.is at may.1
    in let l = leave-fewer (slot_in o.slot) node due decided
    in let r = o.kept.slot_there.room
    in omega arith

-- == a refusal
pub closed-inside : (a : Stage) (hosts : List Host) (h : ℕ) (shut : Bool) → IsConsistent a → hosts ≡ a.state.hosts.items → ((host : Host) → slice_get hosts h ≡ Some host → shut ≡ host.closed) → h < nodes a.cluster → is_host_closed (past_in a) h ≡ shut
closed-inside a hosts h shut w e is below =
    let count = w.kept.hosts_count
    in let x = get-there a.state.hosts.items h (omega arith)
    in let at : slice_get hosts h ≡ Some x.0 = rw e x.1
    in sym (is x.0 at ∙ (w.late.each_sender h x.0 x.1).closed_is)
