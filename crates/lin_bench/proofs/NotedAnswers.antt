-- What the messages of a finish change, and answers that are noted.
use Rattle.std.proofs.Common.{◌≡◌, ◌∙◌, ℕ, ◌==◌, ◌&&◌, Bool, true, false, not, List, [], ◌∷◌, ◌++◌, map, flat_map, refl, sym, ap, append_assoc, cond, slice_index, Option, Some, None, Result, Ok, Err, OnOk}
use Rattle.std.specs.Prelude.{filter}
use Rattle.std.specs.List.{list_any}
use Rattle.std.specs.Option.{option_map_or}
use Rattle.std.proofs.lemmas.List.{map-append}
use Rattle.std.proofs.lemmas.List.Elements.{filter-append}
use Rattle.lin_transport.specs.Transport.{functional}
use Rattle.lin_core.specs.Core.{CoreData, past_of}
use Rattle.lin_core.specs.History.{is_in, Slot, events, finished_slot, time}
use Rattle.lin_core.specs.declared.event.Event.{Event}
use Rattle.lin_core.specs.declared.event.Event.TheVariants as event
use Rattle.lin_core.specs.declared.log.LogEntry.{LogEntry}
use Rattle.lin_parts.specs.declared.parts.Parts.{Parts}
use Rattle.lin_core.specs.declared.port.PortId.{PortId}
use Rattle.lin_core.specs.declared.step.Step.{Step}
use Rattle.lin_bench.specs.Added.{rules_after_arrivals, send_of, went_to_all}
use Rattle.lin_bench.specs.Adding.{HasFinished, finish_of, good_in}
use Rattle.lin_bench.specs.Rules.{after_event, after_events, is_due_at, kept_at, rules_after_reaction, rule_for, sent_at, serving, state_of}
use Rattle.lin_bench.specs.declared.rules.Noted.{Noted}
use Rattle.lin_bench.specs.declared.rules.Rules.{Rules}
use Rattle.lin_bench.specs.declared.rules.When.{When}
use Rattle.lin_bench.proofs.Makes.{append-nothing}
use Rattle.lin_bench.proofs.HeardLinks.{finished-slot, good-told}

-- whether a finish, of which this is the reply's good response, went to all
went-is : (core : CoreData) (by : PortId) (past : List LogEntry) (s : Slot) (b : Bool) → HasFinished core by past s
    → b ≡ option_map_or (λ bytes. slice_index bytes 0 == functional) (good_in (events (finish_of core past by))) false
    → option_map_or went_to_all (finished_slot (finish_of core past by) past) false ≡ b
went-is core by past s b fin went =
    let good = good-told core.cluster core.opening core.capacity past by s fin.slot fin.may in
    let slot = finished-slot core.cluster core.opening core.capacity past by s fin.slot fin.may in
    ap (λ o. option_map_or went_to_all o false) slot ∙ sym (rw good at went)

-- the rules after the messages of a finish arrived, as code has them
pub arrived-is : (core : CoreData) (by : PortId) (past : List LogEntry) (s : Slot) (rules : Rules) (b : Bool) (new : Rules) → HasFinished core by past s
    → b ≡ option_map_or (λ bytes. slice_index bytes 0 == functional) (good_in (events (finish_of core past by))) false
    → new ≡ after_events (serving core.cluster rules.services) b (time core.cluster (past_of core)) rules (events (finish_of core past by))
    → new ≡ rules_after_arrivals core.cluster (finish_of core past by) past rules
arrived-is core by past s rules b new fin went is =
    (rw fin.newest at is)
    ∙ ap (λ t. after_events (serving core.cluster rules.services) t (time core.cluster (finish_of core past by ∷ past)) rules (events (finish_of core past by)))
    (sym (went-is core by past s b fin went))

-- ---- messages change states and the answers that are noted, and no other rule
reacted-kept : (served : Option Parts) (to : Bool) (t : ℕ) (rules : Rules) (node : ℕ) (message : List ℕ) (w : Option When)
    → rules_after_reaction served to t rules node message w
    ≡ record rules { states = (rules_after_reaction served to t rules node message w).states; noted = (rules_after_reaction served to t rules node message w).noted }
reacted-kept served to t rules node message None = refl
reacted-kept served to t rules node message (Some w) = refl

either-kept : (b : Bool) (x rules : Rules) → x ≡ record rules { states = x.states; noted = x.noted }
    → cond b x rules ≡ record rules { states = (cond b x rules).states; noted = (cond b x rules).noted }
either-kept true x rules e = e
either-kept false x rules e = refl

event-kept : (served : Option Parts) (to : Bool) (t : ℕ) (rules : Rules) (e : Event)
    → after_event served to t rules e ≡ record rules { states = (after_event served to t rules e).states; noted = (after_event served to t rules e).noted }
event-kept served to t rules (event.Accepted host number) = refl
event-kept served to t rules (event.Slot table entry header) = refl
event-kept served to t rules event.Service = refl
event-kept served to t rules (event.Due node) = refl
event-kept served to t rules (event.Put node answer) = refl
event-kept served to t rules (event.Seen how) = refl
event-kept served to t rules (event.Message from node bytes) =
    let w : Option When = rule_for rules.whens node (state_of rules.states node) bytes in
    either-kept (from == 0 && not (is_in rules.offs node)) (rules_after_reaction served to t rules node bytes w) rules (reacted-kept served to t rules node bytes w)
event-kept served to t rules (event.Sent host number) = refl
event-kept served to t rules (event.Lost host number cause) = refl
event-kept served to t rules event.Asleep = refl

events-kept : (served : Option Parts) (to : Bool) (t : ℕ) (rules : Rules) (es : List Event)
    → after_events served to t rules es ≡ record rules { states = (after_events served to t rules es).states; noted = (after_events served to t rules es).noted }
events-kept served to t rules [] = refl
events-kept served to t rules (e ∷ es) =
    let one : Rules = after_event served to t rules e in
    let all : Rules = after_events served to t one es in
    events-kept served to t one es ∙ ap (λ (r : Rules). record r { states = all.states; noted = all.noted }) (event-kept served to t rules e)

pub arrived-kept : (c : Parts) (e : LogEntry) (past : List LogEntry) (rules : Rules)
    → rules_after_arrivals c e past rules ≡ record rules { states = (rules_after_arrivals c e past rules).states; noted = (rules_after_arrivals c e past rules).noted }
arrived-kept c e past rules =
    events-kept (serving c rules.services) (option_map_or went_to_all (finished_slot e past) false) (time c (e ∷ past)) rules (events e)

pub where-ok : {T E P Q : Type 0} (r : Result T E) → (P → Q) → OnOk r P → OnOk r Q
where-ok (Ok x) f p = f p
where-ok (Err e) f p = p

-- ---- those that are sent, and those that are kept
filter-last : {A : Type 0} (p : A → Bool) (xs : List A) (x : A) (b : Bool) → p x ≡ b → filter p (xs ++ x ∷ []) ≡ filter p xs ++ cond b (x ∷ []) []
filter-last p xs x b h = filter-append p xs (x ∷ []) ∙ ap (λ l. filter p xs ++ l) (ap (λ t. cond t (x ∷ []) []) h)

pub one-sent : (time : ℕ) (first steps : List (PortId × Step)) (before : List Noted) (one : Noted) → is_due_at time one ≡ true
    → steps ≡ first ++ map send_of (sent_at time before) → steps ++ send_of one ∷ [] ≡ first ++ map send_of (sent_at time (before ++ one ∷ []))
one-sent time first steps before one due is =
    ap (λ l. l ++ send_of one ∷ []) is ∙ append_assoc first (map send_of (sent_at time before)) (send_of one ∷ [])
    ∙ ap (λ l. first ++ l) (sym (ap (map send_of) (filter-last (is_due_at time) before one true due) ∙ map-append send_of (sent_at time before) (one ∷ [])))

pub one-kept : (time : ℕ) (noted before : List Noted) (one : Noted) → is_due_at time one ≡ false
    → noted ≡ kept_at time before → noted ++ one ∷ [] ≡ kept_at time (before ++ one ∷ [])
one-kept time noted before one due is =
    ap (λ l. l ++ one ∷ []) is ∙ sym (filter-last (λ n. not (is_due_at time n)) before one true (ap not due))

pub not-kept : (time : ℕ) (noted before : List Noted) (one : Noted) → is_due_at time one ≡ true
    → noted ≡ kept_at time before → noted ≡ kept_at time (before ++ one ∷ [])
not-kept time noted before one due is =
    is ∙ sym (append-nothing (kept_at time before)) ∙ sym (filter-last (λ n. not (is_due_at time n)) before one false (ap not due))

pub not-sent : (time : ℕ) (first steps : List (PortId × Step)) (before : List Noted) (one : Noted) → is_due_at time one ≡ false
    → steps ≡ first ++ map send_of (sent_at time before) → steps ≡ first ++ map send_of (sent_at time (before ++ one ∷ []))
not-sent time first steps before one due is =
    is ∙ ap (λ l. first ++ map send_of l) (sym (filter-last (is_due_at time) before one false due ∙ append-nothing (sent_at time before)))

none-due : (time : ℕ) (one : Noted) (noted : List Noted) (b : Bool) → is_due_at time one ≡ b → list_any (is_due_at time) (one ∷ noted) ≡ false
    → (is_due_at time one ≡ false) × (list_any (is_due_at time) noted ≡ false)
none-due time one noted true h none = let no : true ≡ false = rw h at none in absurd (cc)
none-due time one noted false h none = (h, rw h at none)

pub none-sent : (time : ℕ) (noted : List Noted) → list_any (is_due_at time) noted ≡ false → sent_at time noted ≡ []
none-sent time [] none = refl
none-sent time (one ∷ noted) none =
    let p = none-due time one noted (is_due_at time one) refl none in
    rw p.0 (none-sent time noted p.1)

pub all-kept : (time : ℕ) (noted : List Noted) → list_any (is_due_at time) noted ≡ false → kept_at time noted ≡ noted
all-kept time [] none = refl
all-kept time (one ∷ noted) none =
    let p = none-due time one noted (is_due_at time one) refl none in
    rw p.0 (ap (λ l. one ∷ l) (all-kept time noted p.1))
