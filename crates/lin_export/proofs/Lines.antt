-- What the lines of an entry say, by what is kept of the entries before it.
use Rattle.std.proofs.Common.{◌≡◌, ℕ, List, [], ◌∷◌, ◌++◌, refl, sym, ap, ◌∙◌, append_assoc, append-nil, flat_map, map, length, get_or, ◌<◌, arith}
use Rattle.std.specs.Prelude.{Option, Some, None, option_map, zip}
use Rattle.std.specs.Option.{option_map_or, option_to_list}
use Rattle.lin_parts.specs.Cluster.{line_of}
use Rattle.lin_parts.specs.declared.parts.Parts.{Parts}
use Rattle.lin_core.specs.History.{Slot}
use Rattle.lin_core.specs.declared.event.Event.{Event}
use Rattle.lin_core.specs.declared.event.Event.TheVariants as event
use Rattle.lin_core.specs.declared.event.Seen.TheVariants as seen
use Rattle.lin_export.specs.Named.{words_after_event, event_lines, frame_values, frame_words, good_words, named_event, named_line, named_words, reply_lines, seen_values, slot_values, transport}
use Rattle.lin_export.specs.NamedWords.{event_text, line_or_none, named_entry}
use Rattle.lin_export.specs.Telling.{each_entry}
use Rattle.lin_export.specs.Track.{shown_slot}
use Rattle.lin_export.specs.WhereTold.{where_told}
use Rattle.lin_values.specs.Coded.{CodedData}
use Rattle.lin_core.specs.declared.log.LogEntry.{LogEntry}
use Rattle.lin_log.specs.Language.{named_language}
use Rattle.std.proofs.lemmas.List.{map-append}
use Rattle.lin_log.specs.Words.{Word, line_tail, log_text, spaced_word, step_line, word_text}
use Rattle.std.proofs.lemmas.Slice.Zip.{get_or-zip, length-zip}
use Rattle.lin_export.proofs.Rows.{flat-append, frame-shown}

flat-same : {X : Type 0} (f h : X → List ℕ) (xs : List X) → ((x : X) → f x ≡ h x) → flat_map f xs ≡ flat_map h xs
flat-same f h [] e = refl
flat-same f h (x ∷ xs) e = ap (λ l. l ++ flat_map f xs) (e x) ∙ ap (λ l. h x ++ l) (flat-same f h xs e)

good-shown : (c : Parts) (answer : List ℕ) (s : Slot) → good_words c answer (shown_slot s) ≡ good_words c answer s
good-shown c answer s =
    ap (λ (o : Option ℕ). option_map_or (λ f. Some (frame_words c f answer)) o (transport c s.header answer)) (frame-shown c (line_of c s.table s.entry).entry s)

behind-good : (c : Parts) (o : Option Slot) (answer : List ℕ)
    → option_map_or (good_words c answer) (option_map shown_slot o) None ≡ option_map_or (good_words c answer) o None
behind-good c None answer = refl
behind-good c (Some s) answer = good-shown c answer s

behind-shown : (c : Parts) (o : Option Slot) (e : Event) → words_after_event c (option_map shown_slot o) e ≡ words_after_event c o e
behind-shown c o (event.Accepted host number) = refl
behind-shown c o (event.Slot table entry header) = refl
behind-shown c o event.Service = refl
behind-shown c o (event.Due node) = refl
behind-shown c o (event.Put node answer) = refl
behind-shown c o (event.Seen (seen.Good answer)) = behind-good c o answer
behind-shown c o (event.Seen seen.Silent) = refl
behind-shown c o (event.Seen seen.NoAnswer) = refl
behind-shown c o (event.Seen seen.Damaged) = refl
behind-shown c o (event.Seen seen.Collided) = refl
behind-shown c o (event.Message from to bytes) = refl
behind-shown c o (event.Sent host number) = refl
behind-shown c o (event.Lost host number why) = refl
behind-shown c o event.Asleep = refl

values-shown : (c : Parts) (k : CodedData) (answer : List ℕ) (s : Slot) → slot_values c k answer (shown_slot s) ≡ slot_values c k answer s
values-shown c k answer s = ap (λ (o : Option ℕ). option_map_or (frame_values c k answer) o []) (frame-shown c (line_of c s.table s.entry).entry s)

values-good : (c : Parts) (k : CodedData) (o : Option Slot) (answer : List ℕ)
    → option_map_or (slot_values c k answer) (option_map shown_slot o) [] ≡ option_map_or (slot_values c k answer) o []
values-good c k None answer = refl
values-good c k (Some s) answer = values-shown c k answer s

seen-shown : (c : Parts) (k : CodedData) (o : Option Slot) (e : Event) → seen_values c k (option_map shown_slot o) e ≡ seen_values c k o e
seen-shown c k o (event.Accepted host number) = refl
seen-shown c k o (event.Slot table entry header) = refl
seen-shown c k o event.Service = refl
seen-shown c k o (event.Due node) = refl
seen-shown c k o (event.Put node answer) = refl
seen-shown c k o (event.Seen (seen.Good answer)) = values-good c k o answer
seen-shown c k o (event.Seen seen.Silent) = refl
seen-shown c k o (event.Seen seen.NoAnswer) = refl
seen-shown c k o (event.Seen seen.Damaged) = refl
seen-shown c k o (event.Seen seen.Collided) = refl
seen-shown c k o (event.Message from to bytes) = refl
seen-shown c k o (event.Sent host number) = refl
seen-shown c k o (event.Lost host number why) = refl
seen-shown c k o event.Asleep = refl

-- the lines of what values mean that an event tells of a slot
abbrev values_told : Parts → Option CodedData → Option Slot → Event → List (List Word)
values_told c k o e = where_told k (λ d. seen_values c d o e)

told-shown : (c : Parts) (k : Option CodedData) (o : Option Slot) (e : Event) → values_told c k (option_map shown_slot o) e ≡ values_told c k o e
told-shown c None o e = refl
told-shown c (Some d) o e = seen-shown c d o e

pub lines-shown : (c : Parts) (k : Option CodedData) (o : Option Slot) (es : List Event)
    → flat_map (event_text c k (option_map shown_slot o)) es ≡ flat_map (event_text c k o) es
lines-shown c k o es =
    flat-same (event_text c k (option_map shown_slot o)) (event_text c k o) es
    (λ e.
    ap (λ (b : Option (List Word)). named_line c (named_event c e) ++ (line_or_none c b ++ flat_map (named_line c) (values_told c k (option_map shown_slot o) e))) (behind-shown c o e)
    ∙ ap (λ (ls : List (List Word)). named_line c (named_event c e) ++ (line_or_none c (words_after_event c o e) ++ flat_map (named_line c) ls)) (told-shown c k o e))

-- lines, one after another
pub one-line : (c : Parts) (o : Option (List Word)) → line_or_none c o ≡ flat_map (named_line c) (option_to_list o)
one-line c None = refl
one-line c (Some ws) = sym (append-nil (named_line c ws))

event-joined : (c : Parts) (k : Option CodedData) (o : Option Slot) (e : Event) → event_text c k o e ≡ flat_map (named_line c) (event_lines c k o e)
event-joined c k o e =
    let first = named_line c (named_event c e) in
    let b = words_after_event c o e in
    let values = values_told c k o e in
    ap (λ l. first ++ (l ++ flat_map (named_line c) values)) (one-line c b) ∙ ap (λ l. first ++ l) (sym (flat-append (named_line c) (option_to_list b) values))

pub lines-joined : (c : Parts) (k : Option CodedData) (o : Option Slot) (es : List Event) (t : Option (List Word))
    → flat_map (event_text c k o) es ++ line_or_none c t ≡ flat_map (named_line c) (flat_map (event_lines c k o) es ++ option_to_list t)
lines-joined c k o [] t = one-line c t
lines-joined c k o (e ∷ es) t =
    let lines : List (List Word) = event_lines c k o e in
    append_assoc (event_text c k o e) (flat_map (event_text c k o) es) (line_or_none c t)
    ∙ ap (λ l. l ++ (flat_map (event_text c k o) es ++ line_or_none c t)) (event-joined c k o e)
    ∙ ap (λ l. flat_map (named_line c) lines ++ l) (lines-joined c k o es t)
    ∙ sym (flat-append (named_line c) lines (flat_map (event_lines c k o) es ++ option_to_list t))
    ∙ ap (λ (l : List (List Word)). flat_map (named_line c) l) (sym (append_assoc lines (flat_map (event_lines c k o) es) (option_to_list t)))

-- a log, entry by entry
pub log-entries : (c : Parts) (k : Option CodedData) (past log : List LogEntry)
    → each_entry (named_entry c k) past log ≡ log_text (named_language c) (reply_lines c k) past log
log-entries c k past [] = refl
log-entries c k past (e ∷ es) =
    append_assoc (step_line (named_language c) e.port e.step) (flat_map (named_line c) (reply_lines c k e past)) (each_entry (named_entry c k) (e ∷ past) es)
    ∙ ap (λ t. step_line (named_language c) e.port e.step ++ (flat_map (named_line c) (reply_lines c k e past) ++ t)) (log-entries c k (e ∷ past) es)

pub zip-at : {X Y : Type 0} (xs : List X) (ys : List Y) (i : ℕ) (x : X) (y : Y) → i < length xs → i < length ys → get_or (zip xs ys) i (x, y) ≡ (get_or xs i x, get_or ys i y)
zip-at xs ys i x y h k = get_or-zip xs ys i (x, y) h k

pub zip-long : {X Y : Type 0} (xs : List X) (ys : List Y) → length xs ≡ length ys → length (zip xs ys) ≡ length xs
zip-long xs ys same = let h = length-zip xs ys in omega (arith, same, h)

-- words that end a line
pub ended-both : (xs ys : List (List ℕ)) → flat_map spaced_word xs ++ line_tail ys ≡ line_tail (xs ++ ys)
ended-both [] ys = refl
ended-both (x ∷ xs) ys = append_assoc (spaced_word x) (flat_map spaced_word xs) (line_tail ys) ∙ ap (λ l. spaced_word x ++ l) (ended-both xs ys)

-- words with names
pub named-append : (c : Parts) (xs ys : List Word) → named_words c (xs ++ ys) ≡ named_words c xs ++ named_words c ys
named-append c xs ys =
    let texts = map (word_text (named_language c)) in
    ap (flat_map spaced_word) (map-append (word_text (named_language c)) xs ys) ∙ flat-append spaced_word (texts xs) (texts ys)

-- words with names that end a line
pub named-ended : (c : Parts) (xs ys : List Word)
    → named_words c xs ++ line_tail (map (word_text (named_language c)) ys) ≡ line_tail (map (word_text (named_language c)) (xs ++ ys))
named-ended c xs ys =
    let texts = map (word_text (named_language c)) in
    ended-both (texts xs) (texts ys) ∙ ap line_tail (sym (map-append (word_text (named_language c)) xs ys))
