-- What the receiver of a link hears, as a core finishes the slot of a good frame.
use Rattle.std.proofs.Common.{◌≡◌, ◌≤◌, ◌+◌, ℕ, List, [], ◌∷◌, map, length, take, refl, ap, sym, ◌∙◌, subst, arith, length-append}
use Rattle.std.specs.Prelude.{Option, Some, false}
use Rattle.lin_frame.specs.Frame.{classic}
use Rattle.lin_transport.specs.Transport.{frame}
use Rattle.lin_transport.proofs.Frames.{length-frame}
use Rattle.lin_parts.specs.declared.parts.Parts.{Parts}
use Rattle.lin_core.specs.kept.Slots.{put_in, slot_in, IsCarried}
use Rattle.lin_core.specs.kept.Receivers.{HearsOn}
use Rattle.lin_core.specs.Links.{Link, Message, link_address, is_to_all}
use Rattle.lin_core.specs.Replies.{finish_events}
use Rattle.lin_core.specs.Slots.{with_classic}
use Rattle.lin_core.specs.declared.log.LogEntry.{LogEntry}
use Rattle.lin_core.specs.declared.port.PortId.{PortId}
use Rattle.lin_core.specs.declared.receivers.Receivers.{Receivers}
use Rattle.lin_core.specs.declared.slot.OpenSlot.{OpenSlot}
use Rattle.lin_core.specs.declared.slot.Put.{Put}
use Rattle.lin_core.proofs.links.Finishes.{frame-is}
use Rattle.lin_core.proofs.steps.Known.{Known}
use Rattle.lin_core.specs.kept.State.{IsConsistent, Stage}
use Rattle.lin_core.specs.declared.host.Host.{Host}
use Rattle.lin_core.proofs.steps.Goods.{GoodIs, carried-slot}
use Rattle.lin_core.proofs.steps.Making.{OpenIs, past_in}
use Rattle.lin_core.proofs.kept.Passing.{finish_of}
use Rattle.lin_core.proofs.kept.Receiving.{CarriesFrame, HeardFrame, carries-frame, heard-frame}

-- the only response of the kept slot
one-put : (ps : List Put) (h : ℕ) (bytes : List ℕ) → map put_in ps ≡ (h, bytes) ∷ [] → (p : Put) × (ps ≡ p ∷ []) × (p.answer ≡ bytes)
one-put [] h bytes e = cc
one-put (p ∷ []) h bytes e = (p, refl, (let same : put_in p ≡ (h, bytes) = cc in ap (λ (x : ℕ × List ℕ). x.1) same))
one-put (p ∷ q ∷ ps) h bytes e = cc

-- the frame that is looked for in the slot is the message's
pub frame-there : (c : Parts) (past : List LogEntry) (by : PortId) (k : Known c past) (slot : OpenSlot) (h : ℕ) (i : CarriesFrame c past by k (slot_in slot) h) (o : OpenSlot) (f : List ℕ) → o ≡ slot
    → ((put : Put) → o.puts.items ≡ put ∷ [] → 8 ≤ length put.answer → f ≡ take 8 put.answer) → f ≡ frame (link_address c i.message.link) i.message.bytes (k.states h).count
frame-there c past by k slot h i o f at is =
    let n : ℕ = link_address c i.message.link
    in let g : List ℕ = frame n i.message.bytes (k.states h).count
    in let one = one-put slot.puts.items h (with_classic g) i.puts
    in let eight : length g ≡ 8 = length-frame n i.message.bytes (k.states h).count
    in let nine : length (with_classic g) ≡ length g + 1 = length-append g (classic g ∷ [])
    in let long : 8 ≤ length one.0.answer = rw one.2 (omega arith)
    in is one.0 (rw at one.1) long ∙ ap (take 8) one.2 ∙ (frame-is n i.message.bytes (k.states h).count).data_is

-- the link on which it is heard is that of the message
pub hears-message : (m m' : Message) (l : Link) (f f' : List ℕ) (given : Option (List ℕ)) (old new : List Receivers) → l ≡ m.link → m ≡ m' → f ≡ f' → HearsOn l f given old new → HearsOn m'.link f' given old new
hears-message m m' l f f' given old new p e g on =
    subst (λ (y : List ℕ). HearsOn m'.link y given old new) g
    (subst (λ (x : Message). HearsOn x.link f given old new) e
    (subst (λ (x : Link). HearsOn x f given old new) p on))

-- a good frame of a host's message, inside a core: the receiver of its link hears it
pub heard-inside : (a : Stage) (by : PortId) (o : OpenIs a by) (h : ℕ) (host : Host) (place : ℕ) (w : IsConsistent a) (g : GoodIs a o.step.known h host place) → IsCarried (past_in a) h false
    → is_to_all g.message.link ≡ false → (l : Link) (f : List ℕ) (given : Option (List ℕ)) (rs : List Receivers) → l ≡ g.message.link
    → (own : OpenSlot) → a.state.slot ≡ Some own → ((put : Put) → own.puts.items ≡ put ∷ [] → 8 ≤ length put.answer → f ≡ take 8 put.answer)
    → HearsOn l f given a.state.receivers.items rs → HeardFrame a.cluster (past_in a) (finish_of a by ∷ past_in a) g.message.link given rs
heard-inside a by o h host place w g carried alone l f given rs link own at frame_is on =
    let c : Parts = a.cluster
    in let past : List LogEntry = past_in a
    in let k : Known c past = o.step.known
    in let q = carried-slot past h false (slot_in o.slot) o.is carried
    in let i : CarriesFrame c past by k (slot_in o.slot) h = carries-frame c past by w.sound k (slot_in o.slot) h o.is q.0
    in let both : g.message ∷ g.later ≡ i.message ∷ i.later = sym g.first ∙ i.first
    in let one : g.message ≡ i.message = cc
    in let same : own ≡ o.slot = (let two : Some own ≡ Some o.slot = sym at ∙ o.at in cc)
    in let there : f ≡ frame (link_address c i.message.link) i.message.bytes (k.states h).count = frame-there c past by k o.slot h i own f same frame_is
    in let hears : HearsOn i.message.link (frame (link_address c i.message.link) i.message.bytes (k.states h).count) given a.state.receivers.items rs
    = hears-message g.message i.message l f _ given a.state.receivers.items rs link one there on
    in subst (λ (m : Message). HeardFrame c past (finish_of a by ∷ past) m.link given rs) (sym one)
    (heard-frame c past by (finish_events c by past) k (slot_in o.slot) h i given a.state.receivers.items rs q.1 (subst (λ (m : Message). is_to_all m.link ≡ false) one alone) hears w.heard)
