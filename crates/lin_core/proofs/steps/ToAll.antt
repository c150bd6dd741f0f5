-- A finish of a slot with a good frame of a message to all responders, inside a core.
use Rattle.std.proofs.Common.{◌≡◌, ◌≤◌, ◌<◌, ℕ, zero, suc, Bool, true, false, List, [], ◌∷◌, ◌++◌, map, length, take, refl, ap, sym, ◌∙◌, subst, arith}
use Rattle.std.specs.Global.{Vec}
use Rattle.std.specs.List.{list_any}
use Rattle.std.specs.Prelude.{Some, ◌||◌, is_some, nat_le, slice_get, slice_index}
use Rattle.lin_transport.specs.Transport.{Ear, frame, frame_count, heard_to, messages_to}
use Rattle.lin_transport.proofs.Frames.{count-long, count-short, size}
use Rattle.lin_transport.proofs.Frames.Size.{long, short}
use Rattle.lin_parts.specs.Cluster.{nad}
use Rattle.lin_parts.specs.declared.parts.Parts.{Parts}
use Rattle.lin_core.specs.History.{open_slot}
use Rattle.lin_core.specs.kept.Hosts.{is_next_to_all, message_of}
use Rattle.lin_core.specs.kept.Receivers.{HaveHeardAlike, Completes, HearAll, KeepsHeard, KeepsReceiver}
use Rattle.lin_core.specs.kept.Slots.{pdu_of, slot_in, IsCarried}
use Rattle.lin_core.specs.kept.State.{IsConsistent, Stage}
use Rattle.lin_core.specs.Links.{Link, Message, Sending, link_address, ear_on, heard_on, host_of, is_to_all, reading, waiting}
use Rattle.lin_core.specs.Replies.{finish_events, link_at}
use Rattle.lin_core.specs.declared.event.Event.{Event}
use Rattle.lin_core.specs.declared.link.Direction.TheVariants.{Down}
use Rattle.lin_core.specs.declared.log.LogEntry.{LogEntry}
use Rattle.lin_core.specs.declared.pdu.Pdu.TheVariants.{OfMessage}
use Rattle.lin_core.specs.declared.port.PortId.{PortId}
use Rattle.lin_core.specs.declared.receivers.Receivers.{Receivers}
use Rattle.lin_core.specs.declared.slot.OpenSlot.{OpenSlot}
use Rattle.lin_core.specs.declared.slot.Put.{Put}
use Rattle.lin_core.proofs.kept.Passing.{finish_of}
use Rattle.lin_core.proofs.kept.Receiving.{CarriesFrame, all-adds, carries-frame, heard-alike, to-all-heard}
use Rattle.lin_core.proofs.laws.Fixed.{finish-grows}
use Rattle.lin_core.proofs.laws.Readings.{grows-reading}
use Rattle.lin_core.proofs.sendings.Hosts.{CanGo, IsCount}
use Rattle.lin_core.proofs.sendings.Moves.{is_last}
use Rattle.lin_core.proofs.sendings.Queues.{waiting-are}
use Rattle.lin_core.proofs.steps.FinishCases.{known_after, whole-gains}
use Rattle.lin_core.proofs.steps.Goods.{carried-slot}
use Rattle.lin_core.proofs.steps.Known.{Known}
use Rattle.lin_core.proofs.steps.Making.{OpenIs, past_in}
use Rattle.lin_core.proofs.steps.Reassembling.{frame-there}

-- the message whose frame the slot carries goes to all, in this frame alone
pub record ToAllIs (a : Stage) (by : PortId) (o : OpenIs a by) : Type 0 where
  pub pdu : pdu_of (slot_in o.slot) ≡ OfMessage 0
  pub calm : (slot_in o.slot).hurt ≡ false
  pub carries : CarriesFrame a.cluster (past_in a) by o.step.known (slot_in o.slot) 0
  pub all : is_to_all carries.message.link ≡ true
  pub none : (o.step.known.states 0).count ≡ 0
  pub short : nat_le (length carries.message.bytes) 6 ≡ true
  pub few : length carries.message.bytes ≤ 6
  pub last : is_last carries.message.bytes (o.step.known.states 0).count ≡ true

first-to-all : (xs : List Sending) (m : Message) (ms : List Message) → map message_of xs ≡ m ∷ ms → list_any (λ (s : Sending). is_to_all s.message.link) (take 1 xs) ≡ true → is_to_all m.link ≡ true
first-to-all [] m ms e all = cc
first-to-all (x ∷ xs) m ms e all = let same : x.message ≡ m = cc in by-test (is_to_all x.message.link) refl same all
  where
    by-test : (b : Bool) → is_to_all x.message.link ≡ b → x.message ≡ m → (b || false) ≡ true → is_to_all m.link ≡ true
    by-test true t same all = ap (λ (y : Message). is_to_all y.link) (sym same) ∙ t
    by-test false t same all = cc

-- nothing of it was sent
none-sent : (m : Message) (ms : List Message) (k : ℕ) → IsCount (m ∷ ms) k → is_to_all m.link ≡ true → k ≡ 0
none-sent m ms zero i all = refl
none-sent m ms (suc j) i all = absurd (let bad : false ≡ true = sym i ∙ all in cc)

-- it has one frame
is-short : (c : Parts) (h : ℕ) (m : Message) → CanGo c h m → is_to_all m.link ≡ true → (nat_le (length m.bytes) 6 ≡ true) × (length m.bytes ≤ 6)
is-short c h m go all =
    elim (size m.bytes) [
      | short e few ↦ (e, few)
      | long e more ↦ absurd (
          let several : 1 < frame_count (length m.bytes) = rw (count-long m.bytes e) (omega arith)
          in let bad : false ≡ true = sym (go.several several) ∙ all
          in cc
          )
    ]

last-one : (bytes : List ℕ) (k : ℕ) → nat_le (length bytes) 6 ≡ true → k ≡ 0 → is_last bytes k ≡ true
last-one bytes k e none = rw (none, count-short bytes e) refl

pub to-all-inside : (a : Stage) (by : PortId) (o : OpenIs a by) → IsConsistent a → IsCarried (past_in a) 0 false → is_next_to_all a.cluster (past_in a) 0 ≡ true → ToAllIs a by o
to-all-inside a by o w carried next =
    let c : Parts = a.cluster
    in let past : List LogEntry = past_in a
    in let k : Known c past = o.step.known
    in let q = carried-slot past 0 false (slot_in o.slot) o.is carried
    in let i : CarriesFrame c past by k (slot_in o.slot) 0 = carries-frame c past by w.sound k (slot_in o.slot) 0 o.is q.0
    in let all : is_to_all i.message.link ≡ true = first-to-all (waiting c past 0) i.message i.later (waiting-are c past 0 w.sound k ∙ i.first) next
    in let counts : IsCount (i.message ∷ i.later) (k.states 0).count = subst (λ (ms : List Message). IsCount ms (k.states 0).count) i.first (k.hosts 0).counts
    in let none : (k.states 0).count ≡ 0 = none-sent i.message i.later (k.states 0).count counts all
    in let one = is-short c 0 i.message i.go all
    in record { pdu = q.0; calm = q.1; carries = i; all = all; none = none; short = one.0; few = one.1; last = last-one i.message.bytes (k.states 0).count one.0 none }

-- its frame
abbrev pub frame_of : (a : Stage) (by : PortId) (o : OpenIs a by) → ToAllIs a by o → List ℕ
frame_of a by o t = frame (link_address a.cluster t.carries.message.link) t.carries.message.bytes (o.step.known.states 0).count

-- the frame that is looked for in the slot
pub frame-inside : (a : Stage) (by : PortId) (o : OpenIs a by) (t : ToAllIs a by o) (own : OpenSlot) (f : List ℕ) → a.state.slot ≡ Some own
    → ((put : Put) → own.puts.items ≡ put ∷ [] → 8 ≤ length put.answer → f ≡ take 8 put.answer) → f ≡ frame_of a by o t
frame-inside a by o t own f at is =
    let same : own ≡ o.slot = (let two : Some own ≡ Some o.slot = sym at ∙ o.at in cc)
    in frame-there a.cluster (past_in a) by o.step.known o.slot 0 t.carries own f same is

-- is a single frame
single-frame : (n : ℕ) (m : List ℕ) (k : ℕ) → k ≡ 0 → nat_le (length m) 6 ≡ true → slice_index (frame n m k) 1 ≡ length m
single-frame n m k none few = rw (none, few) refl

pub single-inside : (a : Stage) (by : PortId) (o : OpenIs a by) (t : ToAllIs a by o) → slice_index (frame_of a by o t) 1 < 16
single-inside a by o t =
    let m : Message = t.carries.message
    in let is = single-frame (link_address a.cluster m.link) m.bytes (o.step.known.states 0).count t.none t.short
    in let few = t.few
    in omega arith

-- each receiver down hears it
pub all-inside : (a : Stage) (by : PortId) (o : OpenIs a by) (t : ToAllIs a by o) (f : List ℕ) (rs new : List Receivers) → f ≡ frame_of a by o t → HearAll a.cluster f rs new → KeepsHeard a.cluster (past_in a) rs
    → KeepsHeard a.cluster (finish_of a by ∷ past_in a) new
all-inside a by o t f rs new is hears kept =
    to-all-heard a.cluster (past_in a) by (finish_events a.cluster by (past_in a)) o.step.known (slot_in o.slot) 0 t.carries rs new t.calm t.all (subst (λ (g : List ℕ). HearAll a.cluster g rs new) is hears) kept

-- which completes the message for it
pub completes-inside : (a : Stage) (by : PortId) (o : OpenIs a by) (t : ToAllIs a by o) (w : IsConsistent a) (f : List ℕ) (rs : List Receivers) → f ≡ frame_of a by o t → KeepsHeard a.cluster (past_in a) rs
    → (n : ℕ) (r : Receivers) → slice_get rs n ≡ Some r → is_some (nad a.cluster n) ≡ true → Completes f t.carries.message.bytes r.down (heard_on a.cluster (past_in a) (link_at n Down))
completes-inside a by o t w f rs is kept n r at own =
    let c : Parts = a.cluster
    in let past : List LogEntry = past_in a
    in let l : Link = link_at n Down
    in let k : Known c past = o.step.known
    in let es : List Event = finish_events c by past
    in let past' : List LogEntry = finish_of a by ∷ past
    in let i : CarriesFrame c past by k (slot_in o.slot) 0 = t.carries
    in let adds = all-adds c past by es k (slot_in o.slot) 0 i t.calm t.all n own
    in let heard : heard_to (ear_on c l) f (heard_on c past l) ≡ heard_on c past' l = ap (λ (g : List ℕ). heard_to (ear_on c l) g (heard_on c past l)) is ∙ adds.1
    in let gains = whole-gains c past by (slot_in o.slot) w.sound k 0 i.message i.later o.is t.pdu t.calm i.first t.last es l own adds.0
    in let grows = finish-grows c past by es w.sound k (open_slot past) refl k.slot (host_of l)
    in let reads : reading c past' l ≡ reading c past l ++ i.message.bytes ∷ []
    = grows-reading c past past' l own k (known_after c past by es w.sound k) grows ∙ ap (λ (ms : List (List ℕ)). reading c past l ++ ms) gains
    in let was : KeepsReceiver c past l r.down = kept.each n r Down at own
    in record {
      stands = was.stands;
      reads = subst (λ (e : Ear). messages_to e (heard_to e f (heard_on c past l)) ≡ messages_to e (heard_on c past l) ++ i.message.bytes ∷ []) (sym was.ear_is) (ap (messages_to (ear_on c l)) heard ∙ reads);
    }

-- where room alone was made, all that is kept stays
pub alike-inside : (a : Stage) (rs : Vec Receivers) → HaveHeardAlike a.state.receivers.items rs.items → IsConsistent a → IsConsistent (record a { state = record a.state { receivers = rs } })
alike-inside a rs alike w = record {
  few = w.few;
  rules = w.rules;
  sound = w.sound;
  opening = w.opening;
  kept = w.kept;
  late = w.late;
  heard = heard-alike a.cluster (past_in a) a.state.receivers.items rs.items alike w.heard;
  ready = w.ready;
  history = w.history;
}
