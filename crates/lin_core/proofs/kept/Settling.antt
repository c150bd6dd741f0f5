-- The hosts after an entry by which the first message that waits of one of them is settled.
use Rattle.std.proofs.Common.{◌≡◌, ◌≢◌, ℕ, zero, suc, Bool, true, false, List, [], ◌∷◌, ◌++◌, length, map, refl, ap, sym, ◌∙◌, subst, arith, inl, inr}
use Rattle.std.specs.Prelude.{Some, None, drop, slice_get, slice_set}
use Rattle.lin_parts.specs.declared.parts.Parts.{Parts}
use Rattle.lin_parts.specs.Sound.{IsSound}
use Rattle.lin_core.specs.History.{is_host_closed}
use Rattle.lin_core.specs.kept.Hosts.{host_after_settling, KeepsHost, message_at, message_of, KeepsSender, sender_now}
use Rattle.lin_core.specs.kept.State.{KeepsLate}
use Rattle.lin_core.specs.kept.Bus.{KeepsBus}
use Rattle.lin_core.specs.Links.{Fate, Link, Message, accepted_from, host_of, waiting}
use Rattle.lin_core.specs.declared.host.Host.{Host}
use Rattle.lin_core.specs.declared.link.Cause.{Cause}
use Rattle.lin_core.specs.declared.log.LogEntry.{LogEntry}
use Rattle.lin_core.specs.declared.bus_state.BusState.{BusState}
use Rattle.lin_core.proofs.kept.Entries.{messages-stay}
use Rattle.lin_core.proofs.sendings.Hosts.{AllCanGo, HostState}
use Rattle.lin_core.proofs.steps.Known.{Known}
use Rattle.lin_core.proofs.kept.BusAndSenders.{sender-stays}
use Rattle.lin_core.proofs.sendings.Moves.{marked}
use Rattle.lin_core.proofs.sendings.Queues.{waiting-are}
use Rattle.lin_core.proofs.sendings.Senders.{sender-is}
use Rattle.lin_core.proofs.kept.SignalKeeping.{set-at}

-- one host's first message is settled, and no other host's messages change
pub record Settles (c : Parts) (past : List LogEntry) (e : LogEntry) (k : Known c past) (k' : Known c (e ∷ past)) (h : ℕ) : Type 0 where
  pub message : Message
  pub later : List Message
  pub first : (k.states h).rest ≡ message ∷ later
  pub rest : (k'.states h).rest ≡ later
  pub count : (k'.states h).count ≡ 0
  pub others : (x : ℕ) → h ≢ x → ((k'.states x).rest ≡ (k.states x).rest) × ((k'.states x).count ≡ (k.states x).count)
  pub accepted : (x : ℕ) → accepted_from (e ∷ past) x ≡ accepted_from past x

queue-rest : (log : List LogEntry) (is : List ℕ) (m : Message) (ms : List Message) → map (message_at log) is ≡ map Some (m ∷ ms) → (map (message_at log) (drop 1 is) ≡ map Some ms) × (length is ≡ suc (length (drop 1 is)))
queue-rest log [] m ms e = absurd (cc)
queue-rest log (i ∷ is) m ms e = let rest : map (message_at log) is ≡ map Some ms = cc in (rest, refl)

pub settled-own : (c : Parts) (capacity : ℕ) (log past : List LogEntry) (e : LogEntry) (h : ℕ) (host : Host) (m : Message) (ms : List Message) → IsSound c → (k : Known c past) (k' : Known c (e ∷ past)) → (k.states h).rest ≡ m ∷ ms → (k'.states h).rest ≡ ms
    → accepted_from (e ∷ past) h ≡ accepted_from past h → KeepsHost c capacity log past h host → KeepsHost c capacity (log ++ e ∷ []) (e ∷ past) h (host_after_settling host)
settled-own c capacity log past e h host m ms sound k k' first rest accepted own =
    let queue : map (message_at log) host.queue.items ≡ map Some (m ∷ ms) = own.queue ∙ ap (map Some) (waiting-are c past h sound k ∙ first)
    in let q = queue-rest log host.queue.items m ms queue
    in let count = own.count
    in let shorter = q.1
    in let same = ap length accepted
    in record {
      queue = messages-stay log e (drop 1 host.queue.items) ms q.0 ∙ ap (map Some) (sym (waiting-are c (e ∷ past) h sound k' ∙ rest));
      count = omega arith;
      capacity_is = own.capacity_is;
    }

pub settled-other : (c : Parts) (capacity : ℕ) (log past : List LogEntry) (e : LogEntry) (x : ℕ) (host : Host) → IsSound c → (k : Known c past) (k' : Known c (e ∷ past)) → (k'.states x).rest ≡ (k.states x).rest
    → accepted_from (e ∷ past) x ≡ accepted_from past x → KeepsHost c capacity log past x host → KeepsHost c capacity (log ++ e ∷ []) (e ∷ past) x host
settled-other c capacity log past e x host sound k k' rest accepted own =
    let ms : map message_of (waiting c (e ∷ past) x) ≡ map message_of (waiting c past x) = waiting-are c (e ∷ past) x sound k' ∙ rest ∙ sym (waiting-are c past x sound k)
    in record {
      queue = messages-stay log e host.queue.items (map message_of (waiting c past x)) own.queue ∙ sym (ap (map Some) ms);
      count = own.count ∙ sym (ap length accepted);
      capacity_is = own.capacity_is;
    }

pub settled-hosts : (c : Parts) (capacity : ℕ) (log past : List LogEntry) (e : LogEntry) (h : ℕ) (host : Host) (hosts : List Host) → IsSound c → (k : Known c past) (k' : Known c (e ∷ past)) → Settles c past e k k' h → slice_get hosts h ≡ Some host
    → ((x : ℕ) (y : Host) → slice_get hosts x ≡ Some y → KeepsHost c capacity log past x y)
    → (x : ℕ) (y : Host) → slice_get (slice_set hosts h (host_after_settling host)) x ≡ Some y → KeepsHost c capacity (log ++ e ∷ []) (e ∷ past) x y
settled-hosts c capacity log past e h host hosts sound k k' s here each x y at =
    elim (set-at hosts h x (host_after_settling host) y at) [
      | inl same ↦ rw same.1 (subst (λ (z : ℕ). KeepsHost c capacity (log ++ e ∷ []) (e ∷ past) z (host_after_settling host)) same.0 (settled-own c capacity log past e h host s.message s.later sound k k' s.first s.rest (s.accepted h) (each h host here)))
      | inr differ ↦ settled-other c capacity log past e x y sound k k' (s.others x differ.0).0 (s.accepted x) (each x y differ.1)
    ]

pub settled-late : (c : Parts) (past : List LogEntry) (e : LogEntry) (h : ℕ) (host : Host) (bus bus' : BusState) (hosts : List Host) → IsSound c → (k : Known c past) (k' : Known c (e ∷ past)) → Settles c past e k k' h → slice_get hosts h ≡ Some host
    → ((x : ℕ) → is_host_closed (e ∷ past) x ≡ is_host_closed past x) → KeepsBus c (e ∷ past) bus' → KeepsLate c past bus hosts → KeepsLate c (e ∷ past) bus' (slice_set hosts h (host_after_settling host))
settled-late c past e h host bus bus' hosts sound k k' s here shut kept late = record {
  bus_is = kept;
  each_sender = λ x y at.
      elim (set-at hosts h x (host_after_settling host) y at) [
        | inl same ↦
            let own : KeepsSender c past h host = late.each_sender h host here
            in let none : None ≡ sender_now c (e ∷ past) h = sym (sender-is c (e ∷ past) h sound k' ∙ rw s.count refl)
            in let new : KeepsSender c (e ∷ past) h (host_after_settling host) = record { closed_is = own.closed_is ∙ sym (shut h); sender_is = none }
            in rw same.1 (subst (λ (z : ℕ). KeepsSender c (e ∷ past) z (host_after_settling host)) same.0 new)
        | inr differ ↦
            let own : KeepsSender c past x y = late.each_sender x y differ.1
            in let o = s.others x differ.0
            in record { closed_is = own.closed_is ∙ sym (shut x); sender_is = own.sender_is ∙ sym (sender-stays c past e x sound k k' o.0 o.1) }
      ];
}

-- a mark on one link leaves the other hosts' messages as they are
pub marked-other : (c : Parts) (t : Link → Bool) (cause : Cause) (done : List (Message × Fate)) (rest : List Message) (k h x : ℕ) → AllCanGo c x rest → ((l : Link) → t l ≡ true → host_of l ≡ h) → h ≢ x
    → ((marked t cause done rest k).rest ≡ rest) × ((marked t cause done rest k).count ≡ k)
marked-other c t cause done rest zero h x g own differ = (refl, refl)
marked-other c t cause done [] (suc j) h x g own differ = (refl, refl)
marked-other c t cause done (m ∷ ms) (suc j) h x g own differ = by-test (t m.link) refl
  where
    by-test : (b : Bool) → t m.link ≡ b → ((marked t cause done (m ∷ ms) (suc j)).rest ≡ m ∷ ms) × ((marked t cause done (m ∷ ms) (suc j)).count ≡ suc j)
    by-test true e = absurd (differ (sym (own m.link e) ∙ g.0.host))
    by-test false e = (rw e refl, rw e refl)

-- and settles the message that is begun on it
pub marked-own : (t : Link → Bool) (cause : Cause) (s : HostState) (m : Message) (ms : List Message) (j : ℕ) → s.rest ≡ m ∷ ms → s.count ≡ suc j → t m.link ≡ true
    → ((marked t cause s.done s.rest s.count).rest ≡ ms) × ((marked t cause s.done s.rest s.count).count ≡ 0)
marked-own t cause s m ms j first begun at = (rw (first, begun, at) refl, rw (first, begun, at) refl)
