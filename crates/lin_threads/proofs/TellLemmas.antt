-- What a port was told, as it is told more.
use Rattle.std.proofs.Common.{◌≡◌, ◌≤◌, ◌+◌, ◌⊎◌, inl, inr, ℕ, zero, suc, List, [], ◌∷◌, ◌++◌, length, take, drop, map, filter, Some, refl, sym, ap, ◌∙◌, append_assoc, append-nil, length-append, add-one, arith, Bool, true, Result, Ok, Err, OnOk}
use Rattle.std.specs.List.{slice_get}
use Rattle.std.proofs.Math.Seq.{drop-length, take-length}
use Rattle.std.proofs.lemmas.List.{drop-append-le, map-append, length-take-le, take_all, take-append-drop}
use Rattle.std.proofs.lemmas.List.Elements.{filter-append}
use Rattle.std.proofs.lemmas.Option.{slice_get_within}
use Rattle.rtrb.specs.Ring.{sent, SameProducer}
use mathlib.Core.List.{IsPrefix}
use Rattle.lin_threads.specs.Ports.{ring_into, ring_size}
use Rattle.lin_core.specs.declared.log.LogEntry.{LogEntry}
use Rattle.lin_core.specs.declared.event.Event.{Event}
use Rattle.lin_core.specs.declared.port.PortId.{PortId}
use Rattle.lin_core.specs.declared.reply.Reply.{Reply}
use Rattle.lin_core.specs.declared.reply.Refusal.{Refusal}
use Rattle.lin_core.specs.declared.reply.Reply.TheVariants.{Done, Refused}
use Rattle.lin_threads.specs.declared.ports.lane.Lane.{Lane}
use Rattle.lin_threads.specs.declared.ports.steps.Note.{Note}
use Rattle.lin_threads.specs.declared.ports.steps.Note.TheVariants as note
use Rattle.lin_threads.specs.Steps.{same_port, is_note_for, event_notes, reply_notes, notes_in, notes, part_notes, first_notes, notes_told}
use Rattle.lin_threads.specs.Lanes.{HasNoRoom, IsTold, Serves, PushesNotes, SameLane, lane_wiring, port_of}
use Rattle.lin_threads.proofs.PortLemmas.{into_same, notes-append}

take-next : {X : Type 0} (xs : List X) (i : ℕ) (x : X) → slice_get xs i ≡ Some x → take (suc i) xs ≡ take i xs ++ x ∷ []
take-next [] i x h = absurd (cc)
take-next (a ∷ xs) zero x h = (let e : a ≡ x = cc in ap (λ y. y ∷ []) e)
take-next (a ∷ xs) (suc i) x h = ap (λ ys. a ∷ ys) (take-next xs i x h)

drop-next : {X : Type 0} (xs : List X) (i : ℕ) (x : X) → slice_get xs i ≡ Some x → drop i xs ≡ x ∷ drop (suc i) xs
drop-next [] i x h = absurd (cc)
drop-next (a ∷ xs) zero x h = (let e : a ≡ x = cc in ap (λ y. y ∷ xs) e)
drop-next (a ∷ xs) (suc i) x h = drop-next xs i x h

event_notes-append : (port : PortId) (xs ys : List Event) → event_notes port (xs ++ ys) ≡ event_notes port xs ++ event_notes port ys
event_notes-append port xs ys = ap (map note.Event) (filter-append (is_note_for port) xs ys) ∙ map-append note.Event (filter (is_note_for port) xs) (filter (is_note_for port) ys)

-- one more event of the entry was looked at
pub told_event : (port : PortId) (base seen part : ℕ) (log : List LogEntry) (e : LogEntry) (events : List Event) (x : Event) → slice_get log seen ≡ Some e → e.reply ≡ Done events → slice_get events part ≡ Some x
    → notes_told port base seen (suc part) log ≡ notes_told port base seen part log ++ event_notes port (x ∷ [])
told_event port base seen part log e events x at is here =
    rw (drop-next log seen e at, is, take-next events part x here, event_notes-append port (take part events) (x ∷ []))
    (sym (append_assoc (notes (drop base (take seen log)) port) (event_notes port (take part events)) (event_notes port (x ∷ []))))

none_reply : (port : PortId) (r : Reply) → part_notes port 0 r ≡ []
none_reply port (Done events) = refl
none_reply port (Refused r) = refl

none_first : (port : PortId) (log : List LogEntry) → first_notes port 0 log ≡ []
none_first port [] = refl
none_first port (e ∷ log) = none_reply port e.reply

small : (base seen : ℕ) (log : List LogEntry) → base ≤ seen → seen ≤ length log → base ≤ length (take seen log)
small base seen log h k = let q = length-take-le seen log k in omega arith

-- the next entry comes: what was told of the one before is all its notes
pub told_next : (port : PortId) (base seen : ℕ) (log : List LogEntry) (e : LogEntry) → base ≤ seen → seen ≤ length log → slice_get log seen ≡ Some e
    → notes_told port base (suc seen) 0 log ≡ notes (drop base (take seen log)) port ++ notes_in port e
told_next port base seen log e after within at =
    rw (none_first port (drop (suc seen) log), append-nil, take-next log seen e at, drop-append-le base (take seen log) (e ∷ []) (small base seen log after within))
    (notes-append (drop base (take seen log)) (e ∷ []) port ∙ ap (λ xs. notes (drop base (take seen log)) port ++ xs) (append-nil (notes_in port e)))

all_events : (port : PortId) (base seen part : ℕ) (log : List LogEntry) (e : LogEntry) (events : List Event) → slice_get log seen ≡ Some e → e.reply ≡ Done events → length events ≤ part
    → notes_told port base seen part log ≡ notes (drop base (take seen log)) port ++ notes_in port e
all_events port base seen part log e events at is full = rw (drop-next log seen e at, is, take_all part events full) refl

no_events : (port : PortId) (base seen part : ℕ) (log : List LogEntry) (e : LogEntry) (r : Refusal) → slice_get log seen ≡ Some e → e.reply ≡ Refused r
    → notes_told port base seen part log ≡ notes (drop base (take seen log)) port
no_events port base seen part log e r at is = rw (drop-next log seen e at, is) (append-nil (notes (drop base (take seen log)) port))

pub same_wiring : (a b : Lane) (xs : List Note) → PushesNotes a b xs → lane_wiring b ≡ lane_wiring a
same_wiring a b xs t = rw (t.number, t.steps, t.ring) refl

-- a lane that has looked at one more event
pub serves_event : (base : ℕ) (log : List LogEntry) (e : LogEntry) (events : List Event) (x : Event) (a b : Lane) → Serves base log a → slice_get log a.seen ≡ Some e → e.reply ≡ Done events → slice_get events a.part ≡ Some x
    → PushesNotes a b (event_notes (port_of a) (x ∷ [])) → b.seen ≡ a.seen → b.part ≡ a.part + 1 → Serves base log b
serves_event base log e events x a b s at is here t seen part =
    let port : port_of b ≡ port_of a = rw (t.number, t.steps) refl in
    let lt = slice_get_within log a.seen e at in record {
      steps = rw (port, t.number, t.steps) s.steps;
      after = rw seen s.after;
      within = rw seen s.within;
      whole = λ z. absurd (omega arith);
      notes = rw (port, seen, part, add-one) (t.notes ∙ ap (λ xs. xs ++ event_notes (port_of a) (x ∷ [])) s.notes ∙ sym (told_event (port_of a) base a.seen a.part log e events x at is here));
      given = t.given s.given;
    }

-- a lane that goes on to the next entry, after these notes
pub serves_next : (base : ℕ) (log : List LogEntry) (e : LogEntry) (a b : Lane) (xs : List Note) → Serves base log a → slice_get log a.seen ≡ Some e
    → notes_told (port_of a) base a.seen a.part log ++ xs ≡ notes (drop base (take a.seen log)) (port_of a) ++ notes_in (port_of a) e
    → PushesNotes a b xs → b.seen ≡ a.seen + 1 → b.part ≡ 0 → Serves base log b
serves_next base log e a b xs s at whole t seen part =
    let port : port_of b ≡ port_of a = rw (t.number, t.steps) refl in
    let lt = slice_get_within log a.seen e at in record {
      steps = rw (port, t.number, t.steps) s.steps;
      after = (let h = s.after in omega arith);
      within = omega arith;
      whole = λ z. part;
      notes = rw (port, seen, part, add-one) (t.notes ∙ ap (λ ys. ys ++ xs) s.notes ∙ whole ∙ sym (told_next (port_of a) base a.seen log e s.after s.within at));
      given = t.given s.given;
    }

-- after its last event
pub serves_last : (base : ℕ) (log : List LogEntry) (e : LogEntry) (events : List Event) (a b : Lane) → Serves base log a → slice_get log a.seen ≡ Some e → e.reply ≡ Done events → length events ≤ a.part
    → PushesNotes a b [] → b.seen ≡ a.seen + 1 → b.part ≡ 0 → Serves base log b
serves_last base log e events a b s at is full t seen part =
    serves_next base log e a b [] s at (append-nil _ ∙ all_events (port_of a) base a.seen a.part log e events at is full) t seen part

pub serves_refusal : (base : ℕ) (log : List LogEntry) (e : LogEntry) (r : Refusal) (own : Bool) (a b : Lane) → Serves base log a → slice_get log a.seen ≡ Some e → e.reply ≡ Refused r → same_port e.port (port_of a) ≡ own
    → PushesNotes a b (reply_notes (port_of a) own (Refused r)) → b.seen ≡ a.seen + 1 → b.part ≡ 0 → Serves base log b
serves_refusal base log e r own a b s at is mine t seen part =
    serves_next base log e a b (reply_notes (port_of a) own (Refused r)) s at (rw (no_events (port_of a) base a.seen a.part log e r at is, is, mine) refl) t seen part

-- a lane that was told nothing
pub serves_still : (base : ℕ) (log : List LogEntry) (a b : Lane) → Serves base log a → PushesNotes a b [] → b.seen ≡ a.seen → b.part ≡ a.part → Serves base log b
serves_still base log a b s t seen part =
    let port : port_of b ≡ port_of a = rw (t.number, t.steps) refl in record {
      steps = rw (port, t.number, t.steps) s.steps;
      after = rw seen s.after;
      within = rw seen s.within;
      whole = rw (seen, part) s.whole;
      notes = rw (port, seen, part) (t.notes ∙ append-nil (sent a.notes) ∙ s.notes);
      given = t.given s.given;
    }

-- a lane that only goes on
pub tells_none : (a b : Lane) → b.number ≡ a.number → b.steps ≡ a.steps → b.notes ≡ a.notes → b.given ≡ a.given → b.settled ≡ a.settled → PushesNotes a b []
tells_none a b number steps notes_ given settled = record {
  number = number;
  steps = steps;
  ring = ap ring_into notes_;
  notes = rw notes_ (sym (append-nil (sent a.notes)));
  given = λ g. given ∙ g ∙ ap (λ p. length (sent p)) (sym notes_);
  settled = settled;
}

-- a note is pushed after a look for room
pub tells_more : (a b c : Lane) (x : Note) → PushesNotes a b [] → c.number ≡ b.number → c.steps ≡ b.steps → SameProducer b.notes c.notes → sent c.notes ≡ sent b.notes ++ x ∷ [] → c.given ≡ b.given + 1 → c.settled ≡ b.settled → PushesNotes a c (x ∷ [])
tells_more a b c x t number steps ring more given settled = record {
  number = number ∙ t.number;
  steps = steps ∙ t.steps;
  ring = into_same b.notes c.notes ring ∙ t.ring;
  notes = more ∙ ap (λ xs. xs ++ x ∷ []) (t.notes ∙ append-nil (sent a.notes));
  given = λ g. let h = t.given g in let q = length-append (sent b.notes) (x ∷ []) in rw more (omega arith);
  settled = settled ∙ t.settled;
}

pub same_tells : (i a b : Lane) (xs : List Note) → SameLane i a → PushesNotes a b xs → SameLane i b
same_tells i a b xs s t = record { wiring = same_wiring a b xs t ∙ s.wiring; settled = λ q. t.settled ∙ s.settled q }

part_first : (port : PortId) (k : ℕ) (r : Reply) (own : Bool) → (rest : List Note) × (part_notes port k r ++ rest ≡ reply_notes port own r)
part_first port k (Done events) own = (event_notes port (drop k events), sym (event_notes-append port (take k events) (drop k events)) ∙ ap (event_notes port) (take-append-drop k events))
part_first port k (Refused r) own = (reply_notes port own (Refused r), refl)

first_first : (port : PortId) (k : ℕ) (es : List LogEntry) → (rest : List Note) × (first_notes port k es ++ rest ≡ notes es port)
first_first port k [] = ([], refl)
first_first port k (e ∷ es) = let h = part_first port k e.reply (same_port e.port port) in
    (h.0 ++ notes es port, sym (append_assoc (part_notes port k e.reply) h.0 (notes es port)) ∙ ap (λ xs. xs ++ notes es port) h.1)

-- what was told of a log is the beginning of its notes
pub told_first : (port : PortId) (base seen part : ℕ) (log : List LogEntry) → base ≤ seen → seen ≤ length log → IsPrefix (notes_told port base seen part log) (notes (drop base log) port)
told_first port base seen part log after within =
    let h = first_first port part (drop seen log) in
    let start : List LogEntry = drop base (take seen log) in
    let whole : start ++ drop seen log ≡ drop base log = sym (drop-append-le base (take seen log) (drop seen log) (small base seen log after within)) ∙ ap (drop base) (take-append-drop seen log) in
    (h.0, append_assoc (notes start port) (first_notes port part (drop seen log)) h.0 ∙ ap (λ xs. notes start port ++ xs) h.1 ∙ sym (notes-append start (drop seen log) port) ∙ ap (λ es. notes es port) whole)

-- what was pushed to a lane is the beginning of its notes
pub given_first : (base : ℕ) (log : List LogEntry) (lane : Lane) → Serves base log lane → IsPrefix (sent lane.notes) (notes (drop base log) (port_of lane))
given_first base log lane s = rw s.notes (told_first (port_of lane) base lane.seen lane.part log s.after s.within)

-- a lane that has seen the whole log was told all its notes
told_all : (base : ℕ) (log : List LogEntry) (lane : Lane) → Serves base log lane → length log ≤ lane.seen → sent lane.notes ≡ notes (drop base log) (port_of lane)
told_all base log lane s end =
    let seen : lane.seen ≡ length log = (let w = s.within in omega arith) in
    rw (s.notes, seen, drop-length log, take-length log, append-nil) refl

-- a ring without room has taken as many notes, at least, as it takes
told_full : (lane : Lane) → lane.given ≡ length (sent lane.notes) → HasNoRoom lane → ring_size (ring_into lane.notes) ≤ length (sent lane.notes)
told_full lane given (inl none) = (let c = lane.notes.counts in let w = lane.notes.writes in omega arith)
told_full lane given (inr many) = (let w = lane.notes.writes in omega arith)

-- a lane that was told as much as there is, or as it takes
pub told_until : {E : Type 0} (base : ℕ) (log : List LogEntry) (lane : Lane) (r : Result Unit E) → Serves base log lane
    → OnOk r ((lane.settled ≡ true) ⊎ ((length log ≤ lane.seen) ⊎ HasNoRoom lane)) → OnOk r (IsTold (drop base log) lane)
told_until base log lane (Err e) s h = h
told_until base log lane (Ok u) s (inl settled) = inl settled
told_until base log lane (Ok u) s (inr (inl seen)) = inr (inl (told_all base log lane s seen))
told_until base log lane (Ok u) s (inr (inr full)) = inr (inr (full, told_full lane s.given full))
