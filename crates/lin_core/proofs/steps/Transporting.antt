-- An answer with a frame of a message, or with the sleep frame.
use Rattle.std.proofs.Common.{◌≡◌, ℕ, ◌<◌, Bool, true, false, List, [], ◌∷◌, refl, ap, sym, ◌∙◌, subst, arith}
use Rattle.std.specs.Prelude.{Some, None, ◌==◌, ◌&&◌, ◌||◌, slice_get, slice_index_or, nat_le}
use Rattle.lin_core.specs.kept.Slots.{frame_answered, slot_in}
use Rattle.lin_core.specs.History.{Slot, is_sleep_asked, header_is, open_slot}
use Rattle.lin_core.specs.kept.Hosts.{message_at, HasNext, bytes_next}
use Rattle.lin_core.specs.Replies.{put_event, refusals}
use Rattle.lin_core.specs.Slots.{put_bytes, with_classic}
use Rattle.lin_parts.specs.Cluster.{line_of, nodes}
use Rattle.lin_core.specs.kept.State.{IsConsistent, IsStepReady, Stage}
use Rattle.lin_core.specs.declared.event.Event.TheVariants.{Put as PutEvent}
use Rattle.lin_core.specs.declared.host.Host.{Host}
use Rattle.lin_core.specs.declared.port.PortId.{PortId}
use Rattle.lin_core.specs.declared.step.Step.TheVariants.{Answer}
use Rattle.lin_core.proofs.steps.Answering.{AnswerSlot, IsPlain, answer-slot, same-slot, transport-head}
use Rattle.lin_core.proofs.sendings.Hosts.{HostState}
use Rattle.lin_core.proofs.steps.Known.{has_rest}
use Rattle.lin_core.proofs.steps.Allowed.{host-of}
use Rattle.lin_core.proofs.steps.Making.{Allowed, allowed-ready, past_in}
use Rattle.lin_core.proofs.sendings.Nexts.{next-has, next-inside, next-same}
use Rattle.lin_core.proofs.sendings.Turns.{AnswerIs, answer-is, next_of}
use Rattle.lin_core.proofs.sendings.Turns.AnswerIs.{request, response, serves, signals}
use Rattle.std.proofs.lemmas.Bool.Decides.{nat_tests}
use Rattle.std.specs.Option.{option_map_or}
use Rattle.lin_core.proofs.steps.Steps.{none-of}
use Rattle.lin_core.specs.declared.slot.OpenSlot.{OpenSlot}
use Rattle.lin_core.specs.declared.log.LogEntry.{LogEntry}
use Rattle.lin_parts.specs.declared.parts.Parts.{Parts}

-- in a slot under a header of the transport: something is due, and what is put
record TurnIs (c : Parts) (past : List LogEntry) (states : ℕ → HostState) (node : ℕ) (s : Slot) : Type 0 where
  header : ℕ
  header_is : s.header ≡ Some header
  some : (has_rest (states node).rest || (header == 0x3C && is_sleep_asked past)) ≡ true
  bytes : put_bytes c past (line_of c s.table s.entry).entry header node ≡ with_classic (next_of c (states node).rest (states node).count (header == 0x3C && is_sleep_asked past))

or-more : (a b : Bool) → a ≡ true → (a || b) ≡ true
or-more true b e = refl
or-more false b e = cc

turn-is : (c : Parts) (past : List LogEntry) (states : ℕ → HostState) (node : ℕ) (s : Slot) → AnswerIs c past states node s → s.service ≡ false → (header_is 0x3C s.header || header_is 0x7D s.header) ≡ true → TurnIs c past states node s
turn-is c past states node s (serves t serving) plain head = absurd (let bad : true ≡ false = sym serving ∙ plain in cc)
turn-is c past states node s (signals t p q) plain head = absurd (let no : (header_is 0x3C t.header || header_is 0x7D t.header) ≡ false = rw (p, q) refl in let bad : true ≡ false = sym head ∙ no in cc)
turn-is c past states node s (request t h empty z some bytes) plain head = record {
  header = 0x3C;
  header_is = h;
  some = subst (λ (n : ℕ). (has_rest (states n).rest || is_sleep_asked past) ≡ true) (sym z) some;
  bytes = subst (λ (n : ℕ). put_bytes c past (line_of c t.table t.entry).entry 0x3C node ≡ with_classic (next_of c (states n).rest (states n).count (is_sleep_asked past))) (sym z) bytes;
}
turn-is c past states node s (response t h empty some rest bytes) plain head = record { header = 0x7D; header_is = h; some = or-more (has_rest (states node).rest) false rest; bytes = bytes }

plain-told : (c : Parts) (past : List LogEntry) (slot : OpenSlot) (h n : ℕ) (bytes : List ℕ) → slot.service ≡ false → open_slot past ≡ Some (slot_in slot) → slot.header ≡ Some h
    → put_bytes c past (line_of c slot.table slot.entry).entry h n ≡ bytes → option_map_or (put_event c past n) (open_slot past) [] ≡ PutEvent n bytes ∷ []
plain-told c past slot h n bytes plain is e p = rw (is, e, plain) (ap (λ (xs : List ℕ). PutEvent n xs ∷ []) p)

-- an answer without a frame of signals, of a node whose host is kept so
pub record AnswersNext (a : Stage) (by : PortId) (node : ℕ) (host : Host) (place : ℕ) (header : ℕ) (sleeping : Bool) : Type 0 where
  pub step : Allowed a by (Answer node)
  pub slot : AnswerSlot a node
  pub has : HasNext a.cluster (message_at a.log place) host.sender sleeping
  pub told : PutEvent node (with_classic (bytes_next a.cluster (message_at a.log place) host.sender sleeping)) ∷ [] ≡ option_map_or (put_event a.cluster (past_in a) node) (open_slot (past_in a)) []

pub answers-next : (a : Stage) (by : PortId) (node : ℕ) (host : Host) (place header : ℕ) (sleeping : Bool) → IsStepReady a by (Answer node) → IsPlain a
    → frame_answered a.cluster (past_in a) node ≡ None → host ≡ slice_index_or a.state.hosts.items node host → ((p : ℕ) → slice_get host.queue.items 0 ≡ Some p → place ≡ p)
    → (own : OpenSlot) → a.state.slot ≡ Some own → Some header ≡ own.header → sleeping ≡ (header == 0x3C && a.state.bus.asked) → AnswersNext a by node host place header sleeping
answers-next a by node host place header sleeping r plain none e at own is head sleeps =
    let c : Parts = a.cluster
    in let past : List LogEntry = past_in a
    in let s : Allowed a by (Answer node) = allowed-ready a by (Answer node) r
    in let w : IsConsistent a = r.whole
    in let o : AnswerSlot a node = answer-slot a by node w s plain
    in let there = (none-of (refusals c a.capacity past by (Answer node)) s.allowed).0
    in let below : node < nodes c = (let far : nat_le (nodes c) node ≡ false = there in grind (arith, nat_tests, far))
    in let here : slice_get a.state.hosts.items node ≡ Some host = host-of a node host w below e
    in let x : AnswerIs c past s.known.states node (slot_in o.slot) = answer-is c a.capacity past by node s.known s.allowed (slot_in o.slot) o.is
    in let t : TurnIs c past s.known.states node (slot_in o.slot) = turn-is c past s.known.states node (slot_in o.slot) x o.plain (transport-head a node o none)
    in let same : header ≡ t.header = (let both : Some header ≡ Some t.header = head ∙ ap (λ (x : OpenSlot). x.header) (same-slot a node o own is) ∙ t.header_is in cc)
    in let asleep_is : sleeping ≡ (t.header == 0x3C && is_sleep_asked past) = sleeps ∙ ap (λ (x : ℕ). x == 0x3C && a.state.bus.asked) same ∙ ap (λ (b : Bool). t.header == 0x3C && b) w.late.bus_is.asked_is
    in let next = next-inside a node host place w s.known here at
    in let some : (has_rest (s.known.states node).rest || sleeping) ≡ true = rw asleep_is t.some
    in record {
      step = s;
      slot = o;
      has = next-has c node (message_at a.log place) host.sender (s.known.states node).rest (s.known.states node).count sleeping (s.known.hosts node).counts next some;
      told = sym (plain-told c past o.slot t.header node (with_classic (bytes_next c (message_at a.log place) host.sender sleeping)) o.plain o.is t.header_is
          (t.bytes ∙ ap (λ (b : Bool). with_classic (next_of c (s.known.states node).rest (s.known.states node).count b)) (sym asleep_is)
          ∙ ap with_classic (sym (next-same c node (message_at a.log place) host.sender (s.known.states node).rest (s.known.states node).count sleeping (s.known.hosts node).counts next some))));
    }
