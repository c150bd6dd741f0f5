-- The data bytes that come next of a host, by what is kept of it.
use Rattle.std.proofs.Common.{◌≡◌, ℕ, zero, suc, ◌≤◌, ◌<◌, Bool, true, false, List, [], ◌∷◌, map, length, refl, ap, sym, ◌∙◌, inl, inr}
use Rattle.std.specs.Prelude.{Option, Some, None, ◌||◌, ◌⊎◌, is_some, slice_get}
use Rattle.lin_transport.specs.Transport.{frame_count}
use Rattle.lin_transport.specs.Sender.{SenderData as Sender}
use Rattle.lin_parts.specs.Cluster.{nodes}
use Rattle.lin_parts.specs.declared.parts.Parts.{Parts}
use Rattle.lin_core.specs.kept.Hosts.{KeepsHost, message_at, HasNext, KeepsSender, bytes_next}
use Rattle.lin_core.specs.Links.{Message, accepted_from, heard_on, is_to_all, signs}
use Rattle.lin_core.specs.kept.State.{IsConsistent, Stage}
use Rattle.lin_core.specs.declared.host.Host.{Host}
use Rattle.lin_core.specs.declared.log.LogEntry.{LogEntry}
use Rattle.lin_core.proofs.sendings.Hosts.{CanGo, HostIs, IsCount}
use Rattle.lin_core.proofs.steps.Known.{Known, as-state, has_rest}
use Rattle.lin_core.proofs.steps.Making.{known-inside, past_in}
use Rattle.lin_core.proofs.sendings.Moves.{count-less}
use Rattle.lin_core.proofs.sendings.Queues.{waiting-are}
use Rattle.lin_core.proofs.laws.Reports.{index-some}
use Rattle.lin_core.proofs.sendings.Senders.{sender-is, sender_for}
use Rattle.lin_core.proofs.steps.Steps.{first-go}
use Rattle.lin_core.proofs.steps.Timeouts.{next-of}
use Rattle.lin_core.proofs.sendings.Turns.{next_of}

-- what is kept of a host with these messages that wait, the first of them this far, and the message at the place of the first
pub record IsNext (c : Parts) (h : ℕ) (o : Option Message) (sender : Option Sender) (rest : List Message) (count : ℕ) : Type 0 where
  pub sender_is : sender ≡ sender_for c rest count
  pub message_is : (m : Message) (ms : List Message) → rest ≡ m ∷ ms → o ≡ Some m
  pub can : (m : Message) (ms : List Message) → rest ≡ m ∷ ms → (1 ≤ length m.bytes) × (length m.bytes ≤ 4095) × CanGo c h m × (count < frame_count (length m.bytes))

pub next-same : (c : Parts) (h : ℕ) (o : Option Message) (sender : Option Sender) (rest : List Message) (count : ℕ) (sleeping : Bool) → IsCount rest count → IsNext c h o sender rest count → (has_rest rest || sleeping) ≡ true
    → bytes_next c o sender sleeping ≡ next_of c rest count sleeping
next-same c h o sender [] zero true i n w = rw n.sender_is refl
next-same c h o sender [] zero false i n w = cc
next-same c h o sender [] (suc j) sleeping i n w = absurd i
next-same c h o sender (m ∷ ms) zero true i n w = rw n.sender_is refl
next-same c h o sender (m ∷ ms) zero false i n w = rw (n.sender_is, n.message_is m ms refl) refl
next-same c h o sender (m ∷ ms) (suc j) sleeping i n w = rw (n.sender_is, n.message_is m ms refl) refl

-- where it goes, a node is or all are
pub place-is : (c : Parts) (h : ℕ) (m : Message) → CanGo c h m → (is_to_all m.link ≡ true) ⊎ (m.link.node < nodes c)
place-is c h m go = by-test (is_to_all m.link) refl
  where
    by-test : (b : Bool) → is_to_all m.link ≡ b → (is_to_all m.link ≡ true) ⊎ (m.link.node < nodes c)
    by-test true e = inl e
    by-test false e = inr (index-some c.nodes m.link.node (go.one e).address)

pub next-has : (c : Parts) (h : ℕ) (o : Option Message) (sender : Option Sender) (rest : List Message) (count : ℕ) (sleeping : Bool) → IsCount rest count → IsNext c h o sender rest count → (has_rest rest || sleeping) ≡ true
    → HasNext c o sender sleeping
next-has c h o sender [] zero true i n w = rw n.sender_is tt
next-has c h o sender [] zero false i n w = cc
next-has c h o sender [] (suc j) sleeping i n w = absurd i
next-has c h o sender (m ∷ ms) zero true i n w = rw n.sender_is tt
next-has c h o sender (m ∷ ms) zero false i n w = let g = n.can m ms refl in rw n.sender_is (m, n.message_is m ms refl, g.0, g.1, place-is c h m g.2)
next-has c h o sender (m ∷ ms) (suc j) sleeping i n w = let g = n.can m ms refl in rw n.sender_is (m, n.message_is m ms refl, refl, g.3)

-- so it is inside, of a host of this number
pub next-inside : (a : Stage) (h : ℕ) (host : Host) (place : ℕ) → IsConsistent a → (k : Known a.cluster (past_in a)) → slice_get a.state.hosts.items h ≡ Some host → ((p : ℕ) → slice_get host.queue.items 0 ≡ Some p → place ≡ p)
    → IsNext a.cluster h (message_at a.log place) host.sender (k.states h).rest (k.states h).count
next-inside a h host place w k here at =
    let c : Parts = a.cluster
    in let past : List LogEntry = past_in a
    in let kept : KeepsHost c a.capacity a.log past h host = w.kept.each_host h host here
    in let late : KeepsSender c past h host = w.late.each_sender h host here
    in record {
      sender_is = late.sender_is ∙ sender-is c past h w.sound k;
      message_is = λ m ms first.
          let q = next-of a.log host.queue.items m ms (kept.queue ∙ ap (map Some) (waiting-are c past h w.sound k ∙ first))
          in rw (at q.0 q.1) q.2;
      can = λ m ms first.
          let go : CanGo c h m = first-go c h (accepted_from past h) (heard_on c past) (signs c past) (k.states h) m ms first (k.hosts h)
          in let i : HostIs c h (accepted_from past h) (heard_on c past) (signs c past) (record { done = (k.states h).done; rest = m ∷ ms; count = (k.states h).count })
          = as-state c h (accepted_from past h) (heard_on c past) (signs c past) (k.states h) (m ∷ ms) (k.states h).count first refl (k.hosts h)
          in (go.can.some, go.can.few, go, count-less c h (accepted_from past h) (heard_on c past) (signs c past) (k.states h).done m ms (k.states h).count i);
    }

-- the message that is begun stands at its place
first-of-begun : (c : Parts) (k : ℕ) (o : Option Message) (sender : Option Sender) (rest : List Message) (count : ℕ) → IsNext c k o sender rest count → is_some sender ≡ true → is_some o ≡ true
first-of-begun c k o sender [] zero n h = absurd (let bad : false ≡ true = rw n.sender_is at h in cc)
first-of-begun c k o sender [] (suc j) n h = absurd (let bad : false ≡ true = rw n.sender_is at h in cc)
first-of-begun c k o sender (m ∷ ms) count n h = ap is_some (n.message_is m ms refl)

pub begun-there : (a : Stage) (n place : ℕ) (begun : Bool) → IsConsistent a → ((host : Host) → slice_get a.state.hosts.items n ≡ Some host → begun ≡ is_some host.sender) → (slice_get a.state.hosts.items n ≡ None → begun ≡ false)
    → ((host : Host) (p : ℕ) → slice_get a.state.hosts.items n ≡ Some host → slice_get host.queue.items 0 ≡ Some p → place ≡ p) → begun ≡ true → is_some (message_at a.log place) ≡ true
begun-there a n place begun w some none next h = by-host (slice_get a.state.hosts.items n) refl
  where
    by-host : (o : Option Host) → slice_get a.state.hosts.items n ≡ o → is_some (message_at a.log place) ≡ true
    by-host None e = absurd (let bad : false ≡ true = sym (none e) ∙ h in cc)
    by-host (Some host) e =
        let k : Known a.cluster (past_in a) = known-inside a w
        in first-of-begun a.cluster n (message_at a.log place) host.sender (k.states n).rest (k.states n).count (next-inside a n host place w k e (λ p front. next host p e front)) (sym (some host e) ∙ h)
