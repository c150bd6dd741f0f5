-- A finish of a slot with a good frame of a host's message, inside a core.
use Rattle.std.proofs.Common.{◌≡◌, ℕ, zero, suc, ◌+◌, ◌<◌, ◌≤◌, ◌↔◌, Bool, true, false, List, ◌∷◌, length, refl, ap, sym, ◌∙◌, subst, arith}
use Rattle.std.specs.Prelude.{Option, Some, None, ◌==◌, IsTrue, slice_get, slice_index_or}
use Rattle.std.proofs.lemmas.Bool.Decides.{nat_tests}
use Rattle.lin_transport.specs.Transport.{frame_count}
use Rattle.lin_transport.specs.Sender.{SenderData as Sender}
use Rattle.lin_parts.specs.Cluster.{nodes}
use Rattle.lin_parts.specs.declared.parts.Parts.{Parts}
use Rattle.lin_core.specs.History.{Slot, open_slot}
use Rattle.lin_core.specs.kept.Hosts.{sent_of, sending_size, message_at}
use Rattle.lin_core.specs.Links.{Message}
use Rattle.lin_core.specs.kept.Slots.{IsCarried, pdu_of}
use Rattle.lin_core.specs.kept.State.{IsConsistent, Stage}
use Rattle.lin_core.specs.declared.host.Host.{Host}
use Rattle.lin_core.specs.declared.pdu.Pdu.TheVariants.{OfMessage}
use Rattle.lin_core.specs.declared.log.LogEntry.{LogEntry}
use Rattle.lin_core.specs.declared.port.PortId.TheVariants.{Bus}
use Rattle.lin_core.proofs.steps.FinishCases.{HostCarried, host-carried}
use Rattle.lin_core.proofs.steps.Known.{Known}
use Rattle.lin_core.proofs.steps.Allowed.{host-of}
use Rattle.lin_core.proofs.steps.Making.{past_in}
use Rattle.lin_core.proofs.sendings.Moves.{is_last}
use Rattle.lin_core.proofs.sendings.Hosts.{CanGo}
use Rattle.lin_core.proofs.sendings.Nexts.{IsNext, next-inside}
use Rattle.lin_core.proofs.sendings.Senders.{sender_for}

-- the message that the slot carries a frame of: it is the first of its host's, and stands at this place in the log
pub record GoodIs (a : Stage) (k : Known a.cluster (past_in a)) (h : ℕ) (host : Host) (place : ℕ) : Type 0 where
  pub message : Message
  pub later : List Message
  pub first : (k.states h).rest ≡ message ∷ later
  pub below : h < nodes a.cluster
  pub here : slice_get a.state.hosts.items h ≡ Some host
  pub at : message_at a.log place ≡ Some message
  pub some : 1 ≤ length message.bytes
  pub few : length message.bytes ≤ 4095
  pub go : CanGo a.cluster h message
  pub more : (k.states h).count < frame_count (length message.bytes)
  pub sender_is : host.sender ≡ sender_for a.cluster (message ∷ later) (k.states h).count

pub host-there : (a : Stage) (h : ℕ) (hurt : Bool) (w : IsConsistent a) (k : Known a.cluster (past_in a)) → IsCarried (past_in a) h hurt → HostCarried a.cluster k.states h
host-there a h hurt w k carried = host-carried a.cluster (past_in a) Bus carried.0 w.sound k h carried.1 carried.2

pub good-inside : (a : Stage) (h : ℕ) (hurt : Bool) (host : Host) (place : ℕ) (w : IsConsistent a) (k : Known a.cluster (past_in a)) → IsCarried (past_in a) h hurt → host ≡ slice_index_or a.state.hosts.items h host
    → ((p : ℕ) → slice_get host.queue.items 0 ≡ Some p → place ≡ p) → GoodIs a k h host place
good-inside a h hurt host place w k carried e at =
    let i : HostCarried a.cluster k.states h = host-there a h hurt w k carried
    in let here : slice_get a.state.hosts.items h ≡ Some host = host-of a h host w i.below e
    in let n : IsNext a.cluster h (message_at a.log place) host.sender (k.states h).rest (k.states h).count = next-inside a h host place w k here at
    in let can = n.can i.message i.later i.first
    in record {
      message = i.message;
      later = i.later;
      first = i.first;
      below = i.below;
      here = here;
      at = n.message_is i.message i.later i.first;
      some = can.0;
      few = can.1;
      go = can.2;
      more = can.3;
      sender_is = n.sender_is ∙ ap (λ (ms : List Message). sender_for a.cluster ms (k.states h).count) i.first;
    }

-- two looks at a host's place find the same host
pub same-host : (a : Stage) (h : ℕ) (host other : Host) → IsConsistent a → h < nodes a.cluster → host ≡ slice_index_or a.state.hosts.items h host → other ≡ slice_index_or a.state.hosts.items h other → host ≡ other
same-host a h host other w below e o =
    let both : Some host ≡ Some other = sym (host-of a h host w below e) ∙ host-of a h other w below o
    in cc

pub carried-slot : (past : List LogEntry) (h : ℕ) (hurt : Bool) (s : Slot) → open_slot past ≡ Some s → IsCarried past h hurt → (pdu_of s ≡ OfMessage h) × (s.hurt ≡ hurt)
carried-slot past h hurt s is carried =
    let both : Some carried.0 ≡ Some s = sym carried.1 ∙ is
    in let same : carried.0 ≡ s = cc
    in subst (λ (x : Slot). (pdu_of x ≡ OfMessage h) × (x.hurt ≡ hurt)) same (carried.2, carried.3)

-- how far the message is, by the host's sender
sent-by : (c : Parts) (m : Message) (ms : List Message) (count : ℕ) (host : Host) → host.sender ≡ sender_for c (m ∷ ms) count → sent_of host ≡ count
sent-by c m ms zero host e = rw e refl
sent-by c m ms (suc j) host e = rw e refl

size-by : (c : Parts) (m : Message) (ms : List Message) (count : ℕ) (host : Host) → host.sender ≡ sender_for c (m ∷ ms) count → sending_size host (length m.bytes) ≡ length m.bytes
size-by c m ms zero host e = rw e refl
size-by c m ms (suc j) host e = rw e refl

pub more-frames : (c : Parts) (m : Message) (ms : List Message) (count : ℕ) (sender : Option Sender) (s : Sender) → count < frame_count (length m.bytes) → sender ≡ sender_for c (m ∷ ms) count → sender ≡ Some s → s.sent < frame_count s.size
more-frames c m ms zero sender s less e is = absurd (let bad : None ≡ Some s = sym e ∙ is in cc)
more-frames c m ms (suc j) sender s less e is =
    let both : sender_for c (m ∷ ms) (suc j) ≡ Some s = sym e ∙ is
    in let sent : suc j ≡ s.sent = cc
    in let size : length m.bytes ≡ s.size = cc
    in rw (← sent, ← size) less

-- whether the next frame is the last
tells-by : (b : Bool) (n f : ℕ) → (IsTrue b ↔ (n + 1 ≡ f)) → b ≡ (suc n == f)
tells-by true n f h = let e : n + 1 ≡ f = h.0 refl in let e' : suc n ≡ f = omega arith in sym (grind (arith, nat_tests, e'))
tells-by false n f h = by-test (suc n == f) refl
  where
    by-test : (t : Bool) → (suc n == f) ≡ t → false ≡ t
    by-test false e = refl
    by-test true e = absurd (let same : suc n ≡ f = grind (arith, nat_tests, e) in let bad : false ≡ true = h.1 (omega arith) in cc)

pub last-inside : (a : Stage) (h : ℕ) (host : Host) (place len : ℕ) (b : Bool) (k : Known a.cluster (past_in a)) (g : GoodIs a k h host place) → len ≡ length g.message.bytes
    → (IsTrue b ↔ (sent_of host + 1 ≡ frame_count (sending_size host len))) → is_last g.message.bytes (k.states h).count ≡ b
last-inside a h host place len b k g l tells =
    let sent = sent-by a.cluster g.message g.later (k.states h).count host g.sender_is
    in let size = size-by a.cluster g.message g.later (k.states h).count host g.sender_is
    in sym (tells-by b (k.states h).count (frame_count (length g.message.bytes)) (rw (l, sent, size) at tells))
