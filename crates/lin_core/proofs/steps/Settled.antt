-- A finish by which a host's first message is settled, inside a core.
use Rattle.std.proofs.Common.{◌≡◌, ℕ, suc, ◌+◌, ◌^◌, ◌<◌, ◌≤◌, List, [], ◌∷◌, length, ap, sym, ◌∙◌, subst, arith}
use Rattle.std.specs.Prelude.{Some, slice_get, slice_index_or, true}
use Rattle.std.proofs.lemmas.List.{length-map}
use Rattle.lin_parts.specs.Cluster.{nodes}
use Rattle.lin_core.specs.kept.Hosts.{KeepsHost, message_of}
use Rattle.lin_core.specs.kept.Slots.{slot_in, pdu_of}
use Rattle.lin_core.specs.Links.{Message, waiting}
use Rattle.lin_core.specs.kept.State.{IsConsistent, Stage}
use Rattle.lin_core.specs.declared.event.Event.TheVariants.{Lost}
use Rattle.lin_core.specs.declared.host.Host.{Host}
use Rattle.lin_core.specs.declared.link.Cause.TheVariants.{Damaged}
use Rattle.lin_core.specs.declared.pdu.Pdu.TheVariants.{OfMessage}
use Rattle.lin_core.specs.declared.port.PortId.{PortId}
use Rattle.lin_core.proofs.steps.FinishCases.{Done, finishes-damaged, host-carried}
use Rattle.lin_core.proofs.kept.Keeping.{host-few, queue-length}
use Rattle.lin_core.proofs.steps.Allowed.{host-of}
use Rattle.lin_core.proofs.steps.Making.{OpenIs, past_in}
use Rattle.lin_core.proofs.sendings.Queues.{accepted-count, waiting-are}

-- the host whose first message is settled: it is kept there, and the message's number
pub record SettlesHost (a : Stage) (by : PortId) (o : OpenIs a by) (h : ℕ) (host : Host) : Type 0 where
  pub here : slice_get a.state.hosts.items h ≡ Some host
  pub number : host.settled + 1 ≡ suc (length (o.step.known.states h).done)
  pub small : host.settled + 1 < 2 ^ 32

pub settles-host : (a : Stage) (by : PortId) (o : OpenIs a by) (h : ℕ) (host : Host) (m : Message) (ms : List Message) → IsConsistent a → h < nodes a.cluster → (o.step.known.states h).rest ≡ m ∷ ms → host ≡ slice_index_or a.state.hosts.items h host → SettlesHost a by o h host
settles-host a by o h host m ms w there first e =
    let here : slice_get a.state.hosts.items h ≡ Some host = host-of a h host w there e
    in let past = past_in a
    in let kept : KeepsHost a.cluster a.capacity a.log past h host = w.kept.each_host h host here
    in let few : host.settled + length host.queue.items ≤ length a.log = host-few a.cluster a.capacity a.log h host kept
    in let small = o.step.few
    in let n = queue-length a.cluster a.capacity a.log past h host kept
    in let rest : length (waiting a.cluster past h) ≡ length (o.step.known.states h).rest = sym (length-map (waiting a.cluster past h) message_of) ∙ ap length (waiting-are a.cluster past h w.sound o.step.known)
    in let more = ap length first
    in let all = accepted-count a.cluster past h o.step.known
    in let count = kept.count
    in record { here = here; number = omega arith; small = omega arith }

-- a damaged frame
pub record DamagedIs (a : Stage) (by : PortId) (o : OpenIs a by) (w : IsConsistent a) (h : ℕ) (host : Host) : Type 0 where
  pub done : Done a.cluster (past_in a) by (slot_in o.slot) w.sound o.step.known h (Lost h (host.settled + 1) Damaged ∷ [])
  pub own : SettlesHost a by o h host

pub damaged-inside : (a : Stage) (by : PortId) (o : OpenIs a by) (h : ℕ) (host : Host) (w : IsConsistent a) → pdu_of (slot_in o.slot) ≡ OfMessage h → (slot_in o.slot).hurt ≡ true → host ≡ slice_index_or a.state.hosts.items h host → DamagedIs a by o w h host
damaged-inside a by o h host w pdu hurt e =
    let i = host-carried a.cluster (past_in a) by (slot_in o.slot) w.sound o.step.known h o.is pdu
    in let own : SettlesHost a by o h host = settles-host a by o h host i.message i.later w i.below i.first e
    in record {
      done = subst (λ (n : ℕ). Done a.cluster (past_in a) by (slot_in o.slot) w.sound o.step.known h (Lost h n Damaged ∷ [])) (sym own.number) (finishes-damaged a.cluster (past_in a) by (slot_in o.slot) w.sound o.step.known h o.is pdu hurt);
      own = own;
    }
