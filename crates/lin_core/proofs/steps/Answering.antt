-- An answer: the slot in which it is made, and what it makes of what is kept of signals.
use Rattle.std.proofs.Common.{◌≡◌, ℕ, ◌<◌, ◌≤◌, Bool, true, false, List, [], ◌∷◌, ◌++◌, map, length, refl, ap, sym, ◌∙◌, subst, arith, inl, inr, get_or-set_same}
use Rattle.std.specs.Prelude.{Option, Some, None, IfSome, ◌&&◌, ◌||◌, ◌==◌, if◌then◌else◌, is_some, option_map, slice_index_or, slice_set, vec_capacity}
use Rattle.std.proofs.lemmas.Bool.Decides.{nat_tests}
use Rattle.std.proofs.Math.ListN.{length-set}
use Rattle.std.specs.Option.{option_map_or}
use Rattle.lin_frame.specs.Frame.{answer_of}
use Rattle.lin_parts.specs.Cluster.{frame_of, line_of}
use Rattle.lin_parts.specs.declared.parts.Parts.{Parts}
use Rattle.lin_parts.specs.declared.parts.Entry.{Entry}
use Rattle.lin_parts.specs.declared.parts.Entry.TheVariants.{Frame, Sporadic, Event as EventEntry, MasterReq, SlaveResp, Fixed, Quiet}
use Rattle.lin_core.specs.kept.Slots.{frame_answered, frame_by, response_model, CanAnswer, IsOpen, IsThere, put_in, slot_in}
use Rattle.lin_core.specs.History.{Slot, header_is, is_in, has_decided, open_slot}
use Rattle.lin_core.specs.kept.Signals.{KeepsSignals}
use Rattle.lin_core.specs.Replies.{put_event}
use Rattle.lin_core.specs.Signals.{carried_frame, signal_bytes}
use Rattle.lin_core.specs.Slots.{put_bytes, ready_responses, service_bytes, with_classic}
use Rattle.lin_core.specs.kept.State.{IsConsistent, Stage}
use Rattle.lin_core.specs.declared.event.Event.TheVariants.{Put as PutEvent}
use Rattle.lin_core.specs.declared.log.LogEntry.{LogEntry}
use Rattle.lin_core.specs.declared.port.PortId.{PortId}
use Rattle.lin_core.specs.declared.signals.Signals.{Signals}
use Rattle.lin_core.specs.declared.slot.OpenSlot.{OpenSlot}
use Rattle.lin_core.specs.declared.slot.Put.{Put}
use Rattle.lin_core.specs.declared.step.Step.TheVariants.{Answer}
use Rattle.lin_core.proofs.slots.Hearing.{carried-one}
use Rattle.lin_core.proofs.steps.Making.{Allowed, open-some, past_in}
use Rattle.lin_core.proofs.slots.Opening.{Free, with_put}
use Rattle.lin_core.proofs.kept.SignalKeeping.{Answers, cleared-by, cleared-flags}
use Rattle.lin_core.proofs.steps.Steps.{and-parts, answer-allowed}

-- == the slot
in-some : (o : Option Slot) (test : Slot → Bool) → option_map_or test o false ≡ true → is_some o ≡ true
in-some None test h = cc
in-some (Some s) test h = refl

pub record AnswerSlot (a : Stage) (node : ℕ) : Type 0 where
  pub slot : OpenSlot
  pub at : a.state.slot ≡ Some slot
  pub is : open_slot (past_in a) ≡ Some (slot_in slot)
  pub is_open : IsOpen a.cluster slot
  pub plain : slot.service ≡ false
  pub can : CanAnswer a.cluster (line_of a.cluster slot.table slot.entry).entry slot.header node
  pub free : Free slot node

-- the slot in which a node answers
pub record DueSlot (a : Stage) (node : ℕ) : Type 0 where
  pub slot : OpenSlot
  pub at : a.state.slot ≡ Some slot
  pub is : open_slot (past_in a) ≡ Some (slot_in slot)
  pub is_open : IsOpen a.cluster slot
  pub free : Free slot node

pub due-slot : (a : Stage) (by : PortId) (node : ℕ) → IsConsistent a → Allowed a by (Answer node) → DueSlot a node
due-slot a by node w s =
    let both = answer-allowed a.cluster a.capacity (past_in a) by node s.allowed
    in let k = open-some a.state.slot (open_slot (past_in a)) w.kept.slot_is (in-some (open_slot (past_in a)) (λ o. is_in o.due node) both.0)
    in let there : IsOpen a.cluster k.0 = subst (IsThere a.cluster) k.1 w.kept.slot_there
    in let due : is_in k.0.due.items node ≡ true = rw k.2 at both.0
    in let undecided : has_decided (slot_in k.0) node ≡ false = rw k.2 at both.1
    in record { slot = k.0; at = k.1; is = k.2; is_open = there; free = record { due = due; undecided = undecided } }

-- the open slot of a history is for no service
abbrev pub IsPlain : Stage → Type 0
IsPlain a = (s : Slot) → open_slot (past_in a) ≡ Some s → s.service ≡ false

pub answer-slot : (a : Stage) (by : PortId) (node : ℕ) → IsConsistent a → Allowed a by (Answer node) → IsPlain a → AnswerSlot a node
answer-slot a by node w s plain =
    let d = due-slot a by node w s
    in let none : d.slot.service ≡ false = plain (slot_in d.slot) d.is
    in record { slot = d.slot; at = d.at; is = d.is; is_open = d.is_open; plain = none; can = d.is_open.answers none node d.free.due; free = d.free }

-- the slot that is read is that one
pub same-slot : (a : Stage) (node : ℕ) (s : AnswerSlot a node) (o : OpenSlot) → a.state.slot ≡ Some o → o ≡ s.slot
same-slot a node s o at = let both : Some o ≡ Some s.slot = sym at ∙ s.at in cc

pub same-header : (a : Stage) (node : ℕ) (s : AnswerSlot a node) (o : OpenSlot) (h : ℕ) → a.state.slot ≡ Some o → Some h ≡ o.header → h ≡ s.can.0
same-header a node s o h at e = let both : Some h ≡ Some s.can.0 = e ∙ ap (λ (x : OpenSlot). x.header) (same-slot a node s o at) ∙ s.can.1 in cc

pub same-model : (a : Stage) (node : ℕ) (s : AnswerSlot a node) (o : OpenSlot) (frame : ℕ) → a.state.slot ≡ Some o → response_model a.cluster o.kind frame ≡ response_model a.cluster (line_of a.cluster s.slot.table s.slot.entry).entry frame
same-model a node s o frame at = ap (λ (x : OpenSlot). response_model a.cluster x.kind frame) (same-slot a node s o at) ∙ ap (λ (k : Entry). response_model a.cluster k frame) s.is_open.kind_is

-- it is open, and has a header
pub header-there : (a : Stage) (node : ℕ) (s : AnswerSlot a node) (o : OpenSlot) → a.state.slot ≡ Some o → is_some o.header ≡ true
header-there a node s o at = ap is_some (ap (λ (x : OpenSlot). x.header) (same-slot a node s o at) ∙ s.can.1)

pub open-there : (a : Stage) (node : ℕ) (s : AnswerSlot a node) (o : OpenSlot) → a.state.slot ≡ Some o → IsOpen a.cluster o
open-there a node s o at = subst (IsOpen a.cluster) (sym (same-slot a node s o at)) s.is_open

pub answered-by : (c : Parts) (past : List LogEntry) (node h : ℕ) (slot : OpenSlot) → open_slot past ≡ Some (slot_in slot) → slot.header ≡ Some h → frame_answered c past node ≡ frame_by c (line_of c slot.table slot.entry).entry h node
answered-by c past node h slot is e = rw (is, e) refl

-- without a frame of signals it is one of the transport
transport-by : (c : Parts) (past : List LogEntry) (node : ℕ) (slot : OpenSlot) → open_slot past ≡ Some (slot_in slot) → CanAnswer c (line_of c slot.table slot.entry).entry slot.header node → frame_answered c past node ≡ None
    → (header_is 0x3C slot.header || header_is 0x7D slot.header) ≡ true
transport-by c past node slot is can none = elim can.2 [
  | inl found ↦ absurd (let bad : Some found.0 ≡ None = sym found.1 ∙ sym (answered-by c past node can.0 slot is can.1) ∙ none in cc)
  | inr own ↦ elim own [
    | inl request ↦ rw (can.1, request.1) refl
    | inr response ↦ rw (can.1, response.1) refl
  ]
]

pub transport-head : (a : Stage) (node : ℕ) → (s : AnswerSlot a node) → frame_answered a.cluster (past_in a) node ≡ None → (header_is 0x3C s.slot.header || header_is 0x7D s.slot.header) ≡ true
transport-head a node s none = transport-by a.cluster (past_in a) node s.slot s.is s.can none

-- == its bytes
pub put-is : (c : Parts) (past : List LogEntry) (entry : Entry) (h n frame : ℕ) → frame_by c entry h n ≡ Some frame → put_bytes c past entry h n ≡ answer_of (response_model c entry frame) h (signal_bytes c past frame)
put-is c past (Frame f) h n frame e = let same : f ≡ frame = cc in rw same refl
put-is c past (Sporadic k) h n frame e = rw e refl
put-is c past (EventEntry v) h n frame e = rw e refl
put-is c past MasterReq h n frame e = cc
put-is c past SlaveResp h n frame e = cc
put-is c past (Fixed request) h n frame e = cc
put-is c past Quiet h n frame e = cc

pub put-told : (c : Parts) (past : List LogEntry) (slot : OpenSlot) (h n frame : ℕ) (bytes : List ℕ) → slot.service ≡ false → open_slot past ≡ Some (slot_in slot) → slot.header ≡ Some h → frame_by c (line_of c slot.table slot.entry).entry h n ≡ Some frame
    → bytes ≡ answer_of (response_model c (line_of c slot.table slot.entry).entry frame) h (signal_bytes c past frame) → PutEvent n bytes ∷ [] ≡ option_map_or (put_event c past n) (open_slot past) []
put-told c past slot h n frame bytes plain is e by made =
    rw (is, e, plain) (ap (λ (xs : List ℕ). PutEvent n xs ∷ []) (made ∙ sym (put-is c past (line_of c slot.table slot.entry).entry h n frame by)))

-- the bytes of a slot for a service
pub service-told : (c : Parts) (past : List LogEntry) (slot : OpenSlot) (pid n : ℕ) (bytes : List ℕ) → open_slot past ≡ Some (slot_in slot) → slot.header ≡ Some pid → slot.service ≡ true
    → bytes ≡ with_classic (service_bytes (ready_responses c past) (line_of c slot.table slot.entry).entry n) → PutEvent n bytes ∷ [] ≡ option_map_or (put_event c past n) (open_slot past) []
service-told c past slot pid n bytes is e served made = rw (is, e, served) (ap (λ (xs : List ℕ). PutEvent n xs ∷ []) made)

-- what the kept slot says of the open one
pub same-service : (a : Stage) (o : OpenSlot) (b : Bool) → IsConsistent a → a.state.slot ≡ Some o → o.service ≡ b → (s : Slot) → open_slot (past_in a) ≡ Some s → s.service ≡ b
same-service a o b w at e s is =
    let t : Some (slot_in o) ≡ Some s = sym (ap (option_map slot_in) at) ∙ w.kept.slot_is ∙ is
    in let same : slot_in o ≡ s = cc
    in ap (λ (x : Slot). x.service) (sym same) ∙ e

-- == what it makes of what is kept
carried-now : (c : Parts) (slot : OpenSlot) (p : Put) (h : ℕ) → slot.header ≡ Some h → slot.puts.items ≡ [] → carried_frame c (slot_in (with_put slot p)) ≡ frame_by c (line_of c slot.table slot.entry).entry h p.node
carried-now c slot p h e empty =
    carried-one c (line_of c slot.table slot.entry).entry (slot_in (with_put slot p)) h p.node p.answer e (ap (λ (ps : List Put). map put_in (ps ++ p ∷ [])) empty)

cleared-there : (b : Bool) (f n : ℕ) → f < n → IfSome (if b then Some f else None) (λ g. g < n)
cleared-there true f n l = l
cleared-there false f n l = tt

pub frame-answers : (c : Parts) (slot : OpenSlot) (p : Put) (h frame : ℕ) (signals signals' : Signals) → slot.header ≡ Some h → frame_by c (line_of c slot.table slot.entry).entry h p.node ≡ Some frame → frame < length signals.pending.items
    → p.cleared ≡ (if slice_index_or signals.pending.items frame false then Some frame else None) → signals'.values ≡ signals.values → signals'.heard ≡ signals.heard → signals'.pending.items ≡ slice_set signals.pending.items frame false
    → signals'.room.items ≡ [] → ((f : ℕ) → f < length c.frames → length (frame_of c f).signals ≤ vec_capacity signals'.room) → Answers c slot (with_put slot p) p signals signals'
frame-answers c slot p h frame signals signals' e by l cleared values heard flags empty enough = record {
  puts = refl;
  values = values;
  heard = heard;
  count = ap length flags ∙ length-set signals.pending.items frame false;
  flags = λ g. rw (flags, cleared) (cleared-flags signals.pending.items frame g l);
  carries = λ none g carries.
      let same : frame ≡ g = (let t : Some frame ≡ Some g = sym by ∙ sym (carried-now c slot p h e none) ∙ carries in cc)
      in rw (flags, ← same) (get_or-set_same signals.pending.items frame false false l);
  own = λ none g is.
      let both : (slice_index_or signals.pending.items frame false && (frame == g)) ≡ true = sym (cleared-by (slice_index_or signals.pending.items frame false) frame g) ∙ ap (λ (o : Option ℕ). option_map_or (λ x. x == g) o false) (sym cleared) ∙ is
      in let test : (frame == g) ≡ true = (and-parts (slice_index_or signals.pending.items frame false) (frame == g) both).1
      in let same : frame ≡ g = grind (arith, nat_tests, test)
      in carried-now c slot p h e none ∙ by ∙ ap (λ (x : ℕ). Some x) same;
  there = subst (λ (o : Option ℕ). IfSome o (λ f. f < length signals.pending.items)) (sym cleared) (cleared-there (slice_index_or signals.pending.items frame false) frame (length signals.pending.items) l);
  room_empty = empty;
  room_enough = enough;
}

flag-alone : (b : Bool) → (b || false) ≡ b
flag-alone true = refl
flag-alone false = refl

pub request-answers : (c : Parts) (past : List LogEntry) (slot : OpenSlot) (p : Put) (h : ℕ) (signals : Signals) → slot.header ≡ Some h → frame_by c (line_of c slot.table slot.entry).entry h p.node ≡ None → p.cleared ≡ None
    → KeepsSignals c past (Some slot) signals → Answers c slot (with_put slot p) p signals signals
request-answers c past slot p h signals e by cleared k = record {
  puts = refl;
  values = refl;
  heard = refl;
  count = refl;
  flags = λ g. rw cleared (flag-alone (slice_index_or signals.pending.items g false));
  carries = λ none g carries. absurd (let bad : None ≡ Some g = sym by ∙ sym (carried-now c slot p h e none) ∙ carries in cc);
  own = λ none g is. absurd (let bad : false ≡ true = rw cleared at is in cc);
  there = rw cleared tt;
  room_empty = k.room_empty;
  room_enough = k.room_enough;
}
