-- The hosts after a finish by which one more frame of a message was seen good, and more of them follow.
use Rattle.std.proofs.Common.{◌≡◌, ◌≢◌, ℕ, zero, suc, ◌+◌, List, [], ◌∷◌, ◌++◌, length, refl, ap, sym, ◌∙◌, subst, arith, inl, inr}
use Rattle.std.specs.Prelude.{Option, Some, slice_get, slice_set}
use Rattle.std.specs.Option.{option_map_or}
use Rattle.lin_transport.specs.Sender.{SenderData as Sender}
use Rattle.lin_parts.specs.declared.parts.Parts.{Parts}
use Rattle.lin_parts.specs.Sound.{IsSound}
use Rattle.lin_core.specs.History.{is_host_closed}
use Rattle.lin_core.specs.kept.Hosts.{host_after_frame, KeepsHost, KeepsSender, sender_now}
use Rattle.lin_core.specs.kept.State.{KeepsLate}
use Rattle.lin_core.specs.kept.Bus.{KeepsBus}
use Rattle.lin_core.specs.Links.{Message, accepted_from, link_address}
use Rattle.lin_core.specs.declared.host.Host.{Host}
use Rattle.lin_core.specs.declared.log.LogEntry.{LogEntry}
use Rattle.lin_core.specs.declared.bus_state.BusState.{BusState}
use Rattle.lin_core.proofs.kept.Keeping.{same-hosts}
use Rattle.lin_core.proofs.steps.Known.{Known}
use Rattle.lin_core.proofs.kept.BusAndSenders.{sender-stays}
use Rattle.lin_core.proofs.sendings.Senders.{sender-is, sender_for}
use Rattle.lin_core.proofs.kept.SignalKeeping.{set-at}

-- one host's first message has one more good frame, and nothing else changes
pub record GoesOn (c : Parts) (past : List LogEntry) (e : LogEntry) (k : Known c past) (k' : Known c (e ∷ past)) (h : ℕ) : Type 0 where
  pub message : Message
  pub later : List Message
  pub first : (k.states h).rest ≡ message ∷ later
  pub rests : (x : ℕ) → (k'.states x).rest ≡ (k.states x).rest
  pub count : (k'.states h).count ≡ suc (k.states h).count
  pub others : (x : ℕ) → h ≢ x → (k'.states x).count ≡ (k.states x).count
  pub accepted : (x : ℕ) → accepted_from (e ∷ past) x ≡ accepted_from past x

pub going-hosts : (c : Parts) (capacity : ℕ) (log past : List LogEntry) (e : LogEntry) (h : ℕ) (host : Host) (hosts : List Host) (sender : Option Sender) → IsSound c → (k : Known c past) (k' : Known c (e ∷ past)) → GoesOn c past e k k' h
    → slice_get hosts h ≡ Some host → ((x : ℕ) (y : Host) → slice_get hosts x ≡ Some y → KeepsHost c capacity log past x y)
    → (x : ℕ) (y : Host) → slice_get (slice_set hosts h (record host { sender = sender })) x ≡ Some y → KeepsHost c capacity (log ++ e ∷ []) (e ∷ past) x y
going-hosts c capacity log past e h host hosts sender sound k k' g here each x y at =
    elim (set-at hosts h x (record host { sender = sender }) y at) [
      | inl same ↦
          let own : KeepsHost c capacity (log ++ e ∷ []) (e ∷ past) h host = same-hosts c capacity log past e sound k k' g.rests g.accepted h host (each h host here)
          in rw same.1 (subst (λ (z : ℕ). KeepsHost c capacity (log ++ e ∷ []) (e ∷ past) z (record host { sender = sender })) same.0 (record { queue = own.queue; count = own.count; capacity_is = own.capacity_is }))
      | inr differ ↦ same-hosts c capacity log past e sound k k' g.rests g.accepted x y (each x y differ.1)
    ]

-- its sender
more-sender : (c : Parts) (m : Message) (ms : List Message) (count : ℕ) (sender : Option Sender) → sender ≡ sender_for c (m ∷ ms) count
    → Some (option_map_or {T = Sender} (λ s. record s { sent = s.sent + 1 }) sender (record { nad = link_address c m.link; size = length m.bytes; sent = 1 })) ≡ sender_for c (m ∷ ms) (suc count)
more-sender c m ms zero sender e = rw e refl
more-sender c m ms (suc j) sender e = rw e (ap (λ (n : ℕ). Some (record { nad = link_address c m.link; size = length m.bytes; sent = n })) (omega arith))

pub going-late : (c : Parts) (past : List LogEntry) (e : LogEntry) (h : ℕ) (host : Host) (bus bus' : BusState) (hosts : List Host) → IsSound c → (k : Known c past) (k' : Known c (e ∷ past)) → (g : GoesOn c past e k k' h) → slice_get hosts h ≡ Some host
    → ((x : ℕ) → is_host_closed (e ∷ past) x ≡ is_host_closed past x) → KeepsBus c (e ∷ past) bus' → KeepsLate c past bus hosts
    → KeepsLate c (e ∷ past) bus' (slice_set hosts h (host_after_frame host (link_address c g.message.link) (length g.message.bytes)))
going-late c past e h host bus bus' hosts sound k k' g here shut kept late =
    let new : Host = host_after_frame host (link_address c g.message.link) (length g.message.bytes)
    in let own : KeepsSender c past h host = late.each_sender h host here
    in let before : host.sender ≡ sender_for c (g.message ∷ g.later) (k.states h).count = own.sender_is ∙ sender-is c past h sound k ∙ ap (λ (ms : List Message). sender_for c ms (k.states h).count) g.first
    in let after : sender_for c (g.message ∷ g.later) (suc (k.states h).count) ≡ sender_now c (e ∷ past) h
    = sym (sender-is c (e ∷ past) h sound k' ∙ rw (g.rests h, g.first, g.count) refl)
    in let now : KeepsSender c (e ∷ past) h new = record { closed_is = own.closed_is ∙ sym (shut h); sender_is = more-sender c g.message g.later (k.states h).count host.sender before ∙ after }
    in record {
      bus_is = kept;
      each_sender = λ x y at.
          elim (set-at hosts h x new y at) [
            | inl same ↦ rw same.1 (subst (λ (z : ℕ). KeepsSender c (e ∷ past) z new) same.0 now)
            | inr differ ↦
                let o : KeepsSender c past x y = late.each_sender x y differ.1
                in record { closed_is = o.closed_is ∙ sym (shut x); sender_is = o.sender_is ∙ sym (sender-stays c past e x sound k k' (g.rests x) (g.others x differ.0)) }
          ];
    }
