-- What events tell of a slot, of which a part is shown.
use Rattle.std.proofs.Common.{◌≡◌, ℕ, zero, suc, List, [], ◌∷◌, refl, sym, ap, ◌∙◌, drop, length, get_or, ◌+◌, ◌<◌, ◌≤◌, add-one, arith}
use Rattle.std.specs.Prelude.{Option, Some, None, option_map}
use Rattle.lin_parts.specs.declared.parts.Parts.{Parts}
use Rattle.lin_core.specs.History.{Slot, open_slot, slot_after_event, slot_after_events}
use Rattle.lin_core.specs.declared.event.Event.{Event}
use Rattle.lin_core.specs.declared.event.Event.TheVariants as event
use Rattle.lin_core.specs.declared.log.LogEntry.{LogEntry}
use Rattle.lin_core.specs.declared.reply.Reply.TheVariants.{Done}
use Rattle.lin_core.specs.declared.step.Step.TheVariants.{Answer}
use Rattle.lin_export.specs.Track.{TrackData, shown_slot, track_of}

-- an event tells the same of what is shown
told-shown : (e : Event) (s : Slot) → shown_slot (slot_after_event e (shown_slot s)) ≡ shown_slot (slot_after_event e s)
told-shown (event.Accepted host number) s = refl
told-shown (event.Slot table entry header) s = refl
told-shown event.Service s = refl
told-shown (event.Due node) s = refl
told-shown (event.Put node answer) s = refl
told-shown (event.Seen how) s = refl
told-shown (event.Message from to bytes) s = refl
told-shown (event.Sent host number) s = refl
told-shown (event.Lost host number why) s = refl
told-shown event.Asleep s = refl

pub told_all-shown : (es : List Event) (s : Slot) → shown_slot (slot_after_events es (shown_slot s)) ≡ shown_slot (slot_after_events es s)
told_all-shown [] s = refl
told_all-shown (e ∷ es) s =
    sym (told_all-shown es (slot_after_event e (shown_slot s))) ∙ ap (λ (x : Slot). shown_slot (slot_after_events es x)) (told-shown e s) ∙ told_all-shown es (slot_after_event e s)

-- one event more
pub told-next : (e : Event) (es : List Event) (s t : Slot) → t ≡ shown_slot (slot_after_event e s) → shown_slot (slot_after_events es t) ≡ shown_slot (slot_after_events (e ∷ es) s)
told-next e es s t is = ap (λ (x : Slot). shown_slot (slot_after_events es x)) is ∙ told_all-shown es (slot_after_event e s)

-- what is left of a list at an item
drop-suc : {X : Type 0} (xs : List X) (i : ℕ) (d : X) → i < length xs → drop i xs ≡ get_or xs i d ∷ drop (suc i) xs
drop-suc [] i d h = absurd (omega arith)
drop-suc (x ∷ xs) zero d h = refl
drop-suc (x ∷ xs) (suc i) d h = drop-suc xs i d (omega arith)

pub drop-next : {X : Type 0} (xs : List X) (i : ℕ) (x : X) → x ≡ get_or xs i x → i < length xs → drop i xs ≡ x ∷ drop (i + 1) xs
drop-next xs i x is h = rw (add-one) (drop-suc xs i x h) ∙ ap (λ y. y ∷ drop (i + 1) xs) (sym is)

pub drop-end : {X : Type 0} (xs : List X) (i : ℕ) → length xs ≤ i → drop i xs ≡ []
drop-end [] zero h = refl
drop-end [] (suc i) h = refl
drop-end (x ∷ xs) zero h = absurd (omega arith)
drop-end (x ∷ xs) (suc i) h = drop-end xs i (omega arith)

pub some-same : {X : Type 0} (x y : X) → Some x ≡ Some y → x ≡ y
some-same x y e = cc

-- the slot that is open after an answer
pub answer-kept : (o : Option Slot) (es : List Event) (old new : Slot) → Some old ≡ option_map shown_slot o → new ≡ shown_slot (slot_after_events es old)
    → Some new ≡ option_map shown_slot (option_map (slot_after_events es) o)
answer-kept None es old new is e = absurd (cc)
answer-kept (Some s) es old new is e =
    ap Some (e ∙ ap (λ (x : Slot). shown_slot (slot_after_events es x)) (some-same old (shown_slot s) is) ∙ told_all-shown es s)

pub track-answer : (c : Parts) (past : List LogEntry) (e : LogEntry) (events : List Event) (node : ℕ) (old new : Slot) (t : TrackData)
    → e.reply ≡ Done events → e.step ≡ Answer node → t ≡ track_of c past → Some old ≡ t.slot → new ≡ shown_slot (slot_after_events events old)
    → record { slot = Some new; time = t.time; slots = t.slots; hurt = t.hurt } ≡ track_of c (e ∷ past)
track-answer c past e events node old new t reply step is held told =
    let same : Some new ≡ option_map shown_slot (option_map (slot_after_events events) (open_slot past)) = answer-kept (open_slot past) events old new (held ∙ ap (λ (x : TrackData). x.slot) is) told in
    rw (is, same, reply, step) refl
