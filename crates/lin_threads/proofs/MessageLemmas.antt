-- The messages among a port's notes are what the reading of their link grew by.
use Rattle.std.proofs.Common.{◌≡◌, ◌∙◌, refl, sym, ap, subst, ℕ, ◌==◌, ◌&&◌, Bool, true, false, if◌then◌else◌, List, [], ◌∷◌, ◌++◌, map, filter, take, drop, reverse, append_assoc, Option, Some, None, is_some}
use Rattle.std.specs.List.{cons_option, filter_map}
use Rattle.std.proofs.lemmas.List.Elements.{filter_map-append}
use Rattle.std.proofs.lemmas.List.{reverse-append, append-nil, take-append-drop}
use mathlib.Core.List.{IsPrefix}
use Rattle.lin_parts.specs.Cluster.{nad}
use Rattle.lin_parts.specs.Sound.{IsSound}
use Rattle.lin_parts.specs.declared.parts.Parts.{Parts}
use Rattle.lin_core.specs.Core.{CoreData, IsHistory, past_of}
use Rattle.lin_core.specs.History.{events, reply_events}
use Rattle.lin_core.specs.Links.{Link, host_of, reading}
use Rattle.lin_core.specs.Replies.{receiver_of}
use Rattle.lin_core.specs.Reports.{message_for, told_messages, TellsReading}
use Rattle.lin_core.specs.Runs.{history, steps_of}
use Rattle.lin_core.specs.declared.event.Event.{Event}
use Rattle.lin_core.specs.declared.event.Event.TheVariants as event
use Rattle.lin_core.specs.declared.log.LogEntry.{LogEntry}
use Rattle.lin_core.specs.declared.port.PortId.{PortId}
use Rattle.lin_core.specs.declared.reply.Reply.{Reply}
use Rattle.lin_core.specs.declared.reply.Reply.TheVariants.{Done, Refused}
use Rattle.lin_core.specs.declared.step.Step.{Step}
use Rattle.lin_core.proofs.laws.Laws.{history-delivers, log-delivers}
use Rattle.lin_threads.specs.Messages.{message_from, messages_from, port_on, TellsGrowth, BeginsGrowth, BeginsGrowths}
use Rattle.lin_threads.specs.Steps.{notes, notes_in, reply_notes, event_notes, is_note_for, same_port}
use Rattle.lin_threads.specs.declared.ports.steps.Note.{Note}
use Rattle.lin_threads.specs.declared.ports.steps.Note.TheVariants as note

-- an event is told where it passes the test, and brings what its note brings
filtered : (h : ℕ) (p : Event → Bool) (e : Event) (es : List Event) → messages_from h (map note.Event (filter p (e ∷ es))) ≡ cons_option (if p e then message_from h (note.Event e) else None) (messages_from h (map note.Event (filter p es)))
filtered h p e es =
    elim (p e) as (λ b. messages_from h (map note.Event (if b then e ∷ filter p es else filter p es)) ≡ cons_option (if b then message_from h (note.Event e) else None) (messages_from h (map note.Event (filter p es))))
    [ true ↦ refl | false ↦ refl ]

-- a note that brings nothing, told or not
none-either : (b : Bool) → (let n : Option (List ℕ) = None in if b then n else n) ≡ None
none-either true = refl
none-either false = refl

-- a message of the sender that the receiver is told of
some-both : (a b : Bool) (m : List ℕ) → (if b then (if a then Some m else None) else None) ≡ (if a && b then Some m else None)
some-both true true m = refl
some-both true false m = refl
some-both false true m = refl
some-both false false m = refl

-- an event's note brings the receiver's port what the event tells of the link
agrees : (l : Link) (e : Event) → (if is_note_for (port_on l) e then message_from (host_of l) (note.Event e) else None) ≡ message_for l e
agrees l (event.Accepted h number) = none-either (h == receiver_of l.dir l.node)
agrees l (event.Slot table entry header) = refl
agrees l event.Service = refl
agrees l (event.Due k) = refl
agrees l (event.Put k answer) = refl
agrees l (event.Seen how) = refl
agrees l (event.Message from to bytes) = some-both (from == host_of l) (to == receiver_of l.dir l.node) bytes
agrees l (event.Sent h number) = none-either (h == receiver_of l.dir l.node)
agrees l (event.Lost h number cause) = none-either (h == receiver_of l.dir l.node)
agrees l event.Asleep = refl

event-messages : (l : Link) (es : List Event) → messages_from (host_of l) (event_notes (port_on l) es) ≡ filter_map (message_for l) es
event-messages l [] = refl
event-messages l (e ∷ es) =
    filtered (host_of l) (is_note_for (port_on l)) e es
    ∙ ap (λ m. cons_option m (messages_from (host_of l) (event_notes (port_on l) es))) (agrees l e)
    ∙ ap (cons_option (message_for l e)) (event-messages l es)

reply-messages : (l : Link) (own : Bool) (r : Reply) → messages_from (host_of l) (reply_notes (port_on l) own r) ≡ filter_map (message_for l) (reply_events r)
reply-messages l own (Done es) = event-messages l es
reply-messages l true (Refused r) = refl
reply-messages l false (Refused r) = refl

-- what the entries of a longer history tell comes after
told-append : (xs ys : List LogEntry) (l : Link) → told_messages (xs ++ ys) l ≡ told_messages ys l ++ told_messages xs l
told-append [] ys l = sym (append-nil (told_messages ys l))
told-append (x ∷ xs) ys l =
    ap (λ ms. ms ++ filter_map (message_for l) (events x)) (told-append xs ys l)
    ∙ append_assoc (told_messages ys l) (told_messages xs l) (filter_map (message_for l) (events x))

-- what entries tell of a link is what their notes bring the receiver's port
told-notes : (l : Link) (es : List LogEntry) → told_messages (reverse es) l ≡ messages_from (host_of l) (notes es (port_on l))
told-notes l [] = refl
told-notes l (e ∷ es) =
    ap (λ past. told_messages past l) (reverse-append (e ∷ []) es)
    ∙ told-append (reverse es) (e ∷ []) l
    ∙ ap (λ ms. filter_map (message_for l) (events e) ++ ms) (told-notes l es)
    ∙ ap (λ ms. ms ++ messages_from (host_of l) (notes es (port_on l))) (sym (reply-messages l (same_port e.port (port_on l)) e.reply))
    ∙ sym (filter_map-append (message_from (host_of l)) (notes_in (port_on l) e) (notes es (port_on l)))

-- the newest entries stand before the earlier ones
cut : (base : ℕ) (log : List LogEntry) → reverse log ≡ reverse (drop base log) ++ reverse (take base log)
cut base log = ap reverse (sym (take-append-drop base log)) ∙ reverse-append (take base log) (drop base log)

growth-of : (c : Parts) (log : List LogEntry) (base : ℕ) (l : Link) → TellsReading c (reverse log) l → TellsReading c (reverse (take base log)) l → TellsGrowth c log base l
growth-of c log base l whole front =
    sym whole
    ∙ ap (λ past. told_messages past l) (cut base log)
    ∙ told-append (reverse (drop base log)) (reverse (take base log)) l
    ∙ ap (λ ms. ms ++ told_messages (reverse (drop base log)) l) front
    ∙ ap (λ ms. reading c (reverse (take base log)) l ++ ms) (told-notes l (drop base log))

-- the earlier part of a history is a history
earlier-history : (c : Parts) (opening capacity : ℕ) (steps : List (PortId × Step)) (xs ys : List LogEntry) → history c opening capacity steps ≡ xs ++ ys → (t : List (PortId × Step)) × (ys ≡ history c opening capacity t)
earlier-history c opening capacity steps [] ys e = (steps, sym e)
earlier-history c opening capacity [] (x ∷ xs) ys e = absurd (let q : ⊥ = cc in q)
earlier-history c opening capacity (s ∷ earlier) (x ∷ xs) ys e = earlier-history c opening capacity earlier xs ys cc

tells-earlier : (core : CoreData) (base : ℕ) (l : Link) → IsSound core.cluster → IsHistory core → is_some (nad core.cluster l.node) ≡ true → TellsReading core.cluster (reverse (take base core.log)) l
tells-earlier core base l sound h a =
    let t = earlier-history core.cluster core.opening core.capacity (steps_of (past_of core)) (reverse (drop base core.log)) (reverse (take base core.log)) (sym h ∙ cut base core.log)
    in subst (λ (past : List LogEntry). TellsReading core.cluster past l) (sym t.1) (history-delivers core.cluster core.opening core.capacity t.0 sound l a).1

pub tells-growth : (core : CoreData) (base : ℕ) (l : Link) → IsSound core.cluster → IsHistory core → is_some (nad core.cluster l.node) ≡ true → TellsGrowth core.cluster core.log base l
tells-growth core base l sound h a =
    growth-of core.cluster core.log base l (log-delivers core sound h l a).1 (tells-earlier core base l sound h a)

-- a beginning of notes brings a beginning of their messages
front-messages : (host : ℕ) (xs ys : List Note) → IsPrefix xs ys → IsPrefix (messages_from host xs) (messages_from host ys)
front-messages host xs ys p = (messages_from host p.0, sym (filter_map-append (message_from host) xs p.0) ∙ ap (messages_from host) p.1)

begins-growth : (core : CoreData) (base : ℕ) (l : Link) (taken : List Note) → IsSound core.cluster → IsHistory core → is_some (nad core.cluster l.node) ≡ true → IsPrefix taken (notes (drop base core.log) (port_on l)) → BeginsGrowth core.cluster core.log base l taken
begins-growth core base l taken sound h a p =
    let told = notes (drop base core.log) (port_on l)
    in (messages_from (host_of l) told, tells-growth core base l sound h a, front-messages (host_of l) taken told p)

pub begins-growths : (core : CoreData) (base : ℕ) (port : PortId) (taken : List Note) → IsSound core.cluster → IsHistory core → IsPrefix taken (notes (drop base core.log) port) → BeginsGrowths core base port taken
begins-growths core base port taken sound h p =
    λ l a e. begins-growth core base l taken sound h a (subst (λ (q : PortId). IsPrefix taken (notes (drop base core.log) q)) (sym e) p)
