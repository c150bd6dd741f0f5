-- Texts of JSON, a part at a time.
use Rattle.std.proofs.Common.{◌≡◌, ◌∙◌, ◌+◌, ◌==◌, ◌<◌, ◌≤◌, ℕ, zero, suc, List, [], ◌∷◌, ◌++◌, refl, sym, ap, append_assoc, append-nil, add-one, if◌then◌else◌, flat_map, get_or, length, map, take, codes, arith}
use Rattle.std.specs.Prelude.{Bool, true, false, not, Option, Some, None, option_map}
use Rattle.std.specs.Fmt.{decimal}
use Rattle.std.specs.Option.{option_map_or}
use Rattle.std.proofs.Math.Dec.{eqb-suc-zero}
use Rattle.std.proofs.lemmas.List.{length-map, length-take-le, map-append, take_more}
use Rattle.lin_frame.specs.Words.{numbers}
use Rattle.lin_text.specs.Written.{Grows}
use Rattle.lin_text.specs.declared.buffered.TextWriter.{TextWriter}
use Rattle.lin_text.proofs.Growing.{grows-more, same-growth}
use Rattle.lin_parts.specs.Cluster.{entry_kind, entry_name, frame_name, line_of, named_table, signal_of}
use Rattle.lin_parts.specs.declared.parts.Parts.{Parts}
use Rattle.lin_core.specs.History.{Slot, good, open_slot, seen_of, reply_events, time}
use Rattle.lin_core.specs.declared.event.Event.{Event}
use Rattle.lin_core.specs.declared.log.LogEntry.{LogEntry}
use Rattle.lin_core.specs.declared.reply.Refusal.{Refusal}
use Rattle.lin_core.specs.declared.reply.Reply.{Reply}
use Rattle.lin_core.specs.declared.reply.Reply.TheVariants.{Done, Refused}
use Rattle.lin_core.specs.declared.step.Step.{Step}
use Rattle.lin_core.specs.declared.step.Step.TheVariants.{Finish, Wake, Write}
use Rattle.lin_export.specs.ClusterObject.{numbered_values}
use Rattle.lin_export.specs.Csv.{after_comma}
use Rattle.lin_export.specs.Jsonl.{answers_member, due_member, frame_meanings, frame_member, frame_signals, frame_value, header_member, host_member, hurt_member, is_message_frame, meaning_members, message_member, message_value, number_member, column_member, physical_members, response_members, settled_count, settled_all, signals_member, slot_line, step_object, time_member, told_meanings, write_line}
use Rattle.lin_export.specs.Quantities.{column_key, column_value, has_meaning}
use Rattle.lin_export.specs.declared.slot_meanings.Column.{Column}
use Rattle.lin_export.specs.declared.slot_meanings.Column.TheVariants.{Texts, Quantities}
use Rattle.lin_export.specs.Track.{TrackData, shown_slot, track_of}
use Rattle.lin_export.specs.WhereTold.{where_told}
use Rattle.lin_values.specs.Coded.{CodedData}
use Rattle.lin_values.specs.Meaning.{meaning}
use Rattle.lin_values.specs.Meant.{Meant}
use Rattle.lin_frame.specs.declared.value.Value.{Value}
use Rattle.lin_export.specs.Json.{after_members, json_array, with_commas, member, object, object_line, quoted_text}
use Rattle.lin_export.proofs.Rows.{Shows, carried-shown, flat-append, frame-shown}

-- a key, and a value after it
pub keyed : (key value : List ℕ) → member key [] ++ value ≡ member key value
keyed key value = append_assoc (quoted_text key) (58 ∷ []) value

pub grows-member : {W : Type 0} {contents : W → Option (List ℕ)} {x y z : TextWriter W} {value : List ℕ} (key : List ℕ)
    → Grows contents x y (after_comma (member key [])) → Grows contents y z value → Grows contents x z (after_comma (member key value))
grows-member {value = value} key h k = same-growth (ap after_comma (keyed key value)) (grows-more h k)

-- what stands before a value that isn't the first
later-comma : (n : ℕ) → (if suc n == 0 then [] else after_comma []) ≡ after_comma []
later-comma n = ap (λ b. if b then [] else after_comma []) (eqb-suc-zero n)

-- a value more after those before it
joined-one : (n : ℕ) (ts : List (List ℕ)) (t : List ℕ) → n ≡ length ts
    → with_commas (ts ++ t ∷ []) ≡ with_commas ts ++ ((if n == 0 then [] else after_comma []) ++ t)
joined-one n [] t e = rw e (append-nil t)
joined-one n (s ∷ ss) t e =
    ap (λ l. s ++ l) (flat-append after_comma ss (t ∷ []) ∙ ap (λ l. flat_map after_comma ss ++ l) (append-nil (after_comma t))) ∙ sym (append_assoc s (flat_map after_comma ss) (after_comma t))
    ∙ ap (λ l. (s ++ flat_map after_comma ss) ++ (l ++ t)) (sym (ap (λ k. if k == 0 then [] else after_comma []) e ∙ later-comma (length ss)))

pub joined-more : {X : Type 0} (f : X → List ℕ) (xs : List X) (i : ℕ) (d : X) → i < length xs
    → with_commas (map f (take (i + 1) xs)) ≡ with_commas (map f (take i xs)) ++ ((if i == 0 then [] else after_comma []) ++ f (get_or xs i d))
joined-more f xs i d h =
    ap (λ l. with_commas (map f l)) (take_more xs i d h) ∙ ap with_commas (map-append f (take i xs) (get_or xs i d ∷ []))
    ∙ joined-one i (map f (take i xs)) (f (get_or xs i d)) (sym (length-map (take i xs) f ∙ length-take-le i xs (omega arith)))

length-end : {X : Type 0} (xs : List X) (x : X) → length (xs ++ x ∷ []) ≡ suc (length xs)
length-end [] x = refl
length-end (y ∷ ys) x = ap suc (length-end ys x)

pub length-numbers : (n : ℕ) → length (numbers n) ≡ n
length-numbers zero = refl
length-numbers (suc n) = length-end (numbers n) n ∙ ap suc (length-numbers n)

pub joined-numbers : (f : ℕ → List ℕ) (n : ℕ)
    → with_commas (map f (numbers (n + 1))) ≡ with_commas (map f (numbers n)) ++ ((if n == 0 then [] else after_comma []) ++ f n)
joined-numbers f n =
    ap (λ k. with_commas (map f (numbers k))) (add-one n) ∙ ap with_commas (map-append f (numbers n) (n ∷ []))
    ∙ joined-one n (map f (numbers n)) (f n) (sym (length-map (numbers n) f ∙ length-numbers n))

numbered-next : {X : Type 0} (f : ℕ → X → List ℕ) (n : ℕ) (xs : List X) (i : ℕ) (d : X) → i < length xs
    → numbered_values f n (take (suc i) xs) ≡ numbered_values f n (take i xs) ++ f (n + i) (get_or xs i d) ∷ []
numbered-next f n [] i d h = absurd (omega arith)
numbered-next f n (x ∷ xs) zero d h =
    let same : n ≡ n + 0 = omega arith in
    ap (λ k. f k x ∷ []) same
numbered-next f n (x ∷ xs) (suc i) d h =
    let same : n + 1 + i ≡ n + suc i = omega arith in
    ap (λ l. f n x ∷ l) (numbered-next f (n + 1) xs i d (omega arith) ∙ ap (λ k. numbered_values f (n + 1) (take i xs) ++ f k (get_or xs i d) ∷ []) same)

length-numbered : {X : Type 0} (f : ℕ → X → List ℕ) (n : ℕ) (xs : List X) → length (numbered_values f n xs) ≡ length xs
length-numbered f n [] = refl
length-numbered f n (x ∷ xs) = ap suc (length-numbered f (n + 1) xs)

pub joined-numbered : {X : Type 0} (f : ℕ → X → List ℕ) (xs : List X) (i : ℕ) (d : X) → i < length xs
    → with_commas (numbered_values f 0 (take (i + 1) xs)) ≡ with_commas (numbered_values f 0 (take i xs)) ++ ((if i == 0 then [] else after_comma []) ++ f i (get_or xs i d))
joined-numbered f xs i d h =
    let same : 0 + i ≡ i = omega arith in
    ap (λ k. with_commas (numbered_values f 0 (take k xs))) (add-one i) ∙ ap with_commas (numbered-next f 0 xs i d h)
    ∙ ap (λ k. with_commas (numbered_values f 0 (take i xs) ++ f k (get_or xs i d) ∷ [])) same
    ∙ joined-one i (numbered_values f 0 (take i xs)) (f i (get_or xs i d)) (sym (length-numbered f 0 (take i xs) ∙ length-take-le i xs (omega arith)))

-- what a value means, where it means something, after so many members
joined-none : (n : ℕ) (ts : List (List ℕ)) → with_commas (ts ++ []) ≡ with_commas ts ++ after_members n []
joined-none n ts = ap with_commas (append-nil ts) ∙ sym (append-nil (with_commas ts))

joined-if : (n : ℕ) (ts : List (List ℕ)) (b : Bool) (t : List ℕ) → n ≡ length ts
    → with_commas (ts ++ (if b then t ∷ [] else [])) ≡ with_commas ts ++ after_members n (if b then t ∷ [] else [])
joined-if n ts true t e = joined-one n ts t e ∙ ap (λ l. with_commas ts ++ l) (sym (append-nil ((if n == 0 then [] else after_comma []) ++ t)))
joined-if n ts false t e = joined-none n ts

joined-by : (n : ℕ) (ts : List (List ℕ)) (o : Option Meant) (has : Meant → Bool) (says : Meant → List ℕ) → n ≡ length ts
    → with_commas (ts ++ option_map_or (λ m. if has m then says m ∷ [] else []) o []) ≡ with_commas ts ++ after_members n (option_map_or (λ m. if has m then says m ∷ [] else []) o [])
joined-by n ts None has says e = joined-none n ts
joined-by n ts (Some m) has says e = joined-if n ts (has m) (says m) e

pub joined-meaning : (column : Column) (c : Parts) (k : CodedData) (s : ℕ) (v : Value) (ts : List (List ℕ)) (n : ℕ) → n ≡ length ts
    → with_commas (ts ++ meaning_members column c k s v) ≡ with_commas ts ++ after_members n (meaning_members column c k s v)
joined-meaning column c k s v ts n e = joined-by n ts (meaning k s v) (has_meaning column) (λ m. member (signal_of c s).name (column_value column m)) e

one-if : (b : Bool) (t : List ℕ) → length (if b then t ∷ [] else []) ≤ 1
one-if true t = omega arith
one-if false t = omega arith

one-at_most : (o : Option Meant) (has : Meant → Bool) (says : Meant → List ℕ) → length (option_map_or (λ m. if has m then says m ∷ [] else []) o []) ≤ 1
one-at_most None has says = omega arith
one-at_most (Some m) has says = one-if (has m) (says m)

pub meaning-one : (column : Column) (c : Parts) (k : CodedData) (s : ℕ) (v : Value) → length (meaning_members column c k s v) ≤ 1
meaning-one column c k s v = one-at_most (meaning k s v) (has_meaning column) (λ m. member (signal_of c s).name (column_value column m))

-- members, each after a comma
pub record PutsMembers {W : Type 0} (contents : W → Option (List ℕ)) (old new : TextWriter W) (members : List (List ℕ)) : Type 0 where
  pub text : Grows contents old new (flat_map after_comma members)

pub puts-one : {W : Type 0} {contents : W → Option (List ℕ)} {x y : TextWriter W} (m : List ℕ)
    → Grows contents x y (after_comma m) → PutsMembers contents x y (m ∷ [])
puts-one m h = record { text = same-growth (sym (append-nil (after_comma m))) h }

pub puts-all : {W : Type 0} {contents : W → Option (List ℕ)} {x y : TextWriter W} (ms : List (List ℕ))
    → Grows contents x y (flat_map after_comma ms) → PutsMembers contents x y ms
puts-all ms h = record { text = h }

pub puts-more : {W : Type 0} {contents : W → Option (List ℕ)} {x y z : TextWriter W} {ms ns : List (List ℕ)}
    → PutsMembers contents x y ms → PutsMembers contents y z ns → PutsMembers contents x z (ms ++ ns)
puts-more {ms = ms} {ns = ns} h k = record { text = same-growth (sym (flat-append after_comma ms ns)) (grows-more h.text k.text) }

-- a line of members
pub grows-object : {W : Type 0} {contents : W → Option (List ℕ)} {x y z w : TextWriter W} {ms : List (List ℕ)} (kind : List ℕ)
    → Grows contents x y (123 ∷ member (codes "type") (quoted_text kind)) → PutsMembers contents y z ms → Grows contents z w (125 ∷ 10 ∷ [])
    → Grows contents x w (object_line kind ms)
grows-object kind h k l = grows-more h (grows-more k.text l)

-- an object of two members
pub grows-two : {W : Type 0} {contents : W → Option (List ℕ)} {x y z w : TextWriter W} {m n : List ℕ}
    → Grows contents x y (123 ∷ m) → Grows contents y z (after_comma n) → Grows contents z w (125 ∷ []) → Grows contents x w (object (m ∷ n ∷ []))
grows-two {m = m} {n = n} h k l =
    same-growth
    (ap (λ t. 123 ∷ t) (ap (λ t. m ++ (t ++ 125 ∷ [])) (sym (append-nil (after_comma n))) ∙ sym (append_assoc m (after_comma n ++ []) (125 ∷ []))))
    (grows-more h (grows-more k l))

-- an object of members
pub grows-values : {W : Type 0} {contents : W → Option (List ℕ)} {x y z w : TextWriter W} {ms : List (List ℕ)} (m : List ℕ)
    → Grows contents x y (123 ∷ m) → PutsMembers contents y z ms → Grows contents z w (125 ∷ []) → Grows contents x w (object (m ∷ ms))
grows-values {ms = ms} m h k l =
    same-growth (ap (λ t. 123 ∷ t) (sym (append_assoc m (flat_map after_comma ms) (125 ∷ [])))) (grows-more h (grows-more k.text l))

-- a member that is a list
pub grows-list : {W : Type 0} {contents : W → Option (List ℕ)} {x y z w : TextWriter W} (key : List ℕ) (values : List (List ℕ))
    → Grows contents x y (after_comma (member key (91 ∷ []))) → Grows contents y z (with_commas values) → Grows contents z w (93 ∷ [])
    → Grows contents x w (after_comma (member key (json_array values)))
grows-list key values h k l =
    same-growth (ap after_comma (append_assoc (quoted_text key) (58 ∷ 91 ∷ []) (with_commas values ++ 93 ∷ []))) (grows-more h (grows-more k l))

-- the message of a response
pub is-message : (c : Parts) (last : ℕ → ℕ) (header : Option ℕ) (put : ℕ × List ℕ) → is_message_frame header put.1 ≡ true
    → message_value c last header put ≡ object (host_member c put.0 ∷ number_member (last put.0 + 1) ∷ [])
is-message c last header put e = rw e refl

pub not-false : (b : Bool) → not b ≡ false → b ≡ true
not-false true h = refl
not-false false h = cc

-- the slot that is kept has the same object
frame-member-shown : (c : Parts) (s : Slot) → frame_member c (shown_slot s) ≡ frame_member c s
frame-member-shown c s =
    let entry = (line_of c s.table s.entry).entry in
    ap (λ (f : Option ℕ). member (codes "frame") (frame_value entry (option_map_or (frame_name c) f (entry_name c entry)))) (frame-shown c entry s)

signals-member-shown : (c : Parts) (s : Slot) → signals_member c (shown_slot s) ≡ signals_member c s
signals-member-shown c s =
    ap (λ (f : Option ℕ). member (codes "signals") (object (option_map_or (λ answer. option_map_or (frame_signals c answer) f []) (good s) [])))
    (carried-shown c (line_of c s.table s.entry).entry s)

meanings-shown : (column : Column) (c : Parts) (k : CodedData) (s : Slot) → column_member column c k (shown_slot s) ≡ column_member column c k s
meanings-shown column c k s =
    ap (λ (f : Option ℕ). member (column_key column) (object (option_map_or (λ answer. option_map_or (frame_meanings column c k answer) f []) (good s) [])))
    (carried-shown c (line_of c s.table s.entry).entry s)

physical-shown : (c : Parts) (k : Option CodedData) (s : Slot) → where_told k (λ d. physical_members c d (shown_slot s)) ≡ where_told k (λ d. physical_members c d s)
physical-shown c None s = refl
physical-shown c (Some d) s =
    ap (λ m. m ∷ column_member Quantities c d (shown_slot s) ∷ []) (meanings-shown Texts c d s)
    ∙ ap (λ m. column_member Texts c d s ∷ m ∷ []) (meanings-shown Quantities c d s)

-- a slot's line, of which the frame, the signals and what these mean are given
abbrev line_with : Parts → ℕ → ℕ → List ℕ → (ℕ → ℕ) → Slot → List ℕ → List ℕ → List (List ℕ) → List ℕ
line_with c n at bytes last s frame signals physical =
    object_line (codes "slot")
    (member (codes "slot") (decimal n) ∷ time_member at ∷ member (codes "delay_us") (decimal (line_of c s.table s.entry).delay_us)
    ∷ member (codes "table") (quoted_text (named_table c s.table).name) ∷ member (codes "entry") (decimal s.entry)
    ∷ member (codes "kind") (quoted_text (entry_kind (line_of c s.table s.entry).entry)) ∷ frame ∷ header_member s.header
    ∷ due_member c s.due ∷ answers_member c s.puts ∷ hurt_member s.hurt bytes ∷ (response_members (seen_of s) ++ signals ∷ message_member c last s ∷ physical))

pub object-shown : (c : Parts) (k : Option CodedData) (t : TrackData) (last : ℕ → ℕ) (s : Slot) → slot_line c k t last (shown_slot s) ≡ slot_line c k t last s
object-shown c k t last s =
    let line = line_with c t.slots t.time t.hurt last s in
    ap (λ (f : List ℕ). line f (signals_member c (shown_slot s)) (told_meanings c k (shown_slot s))) (frame-member-shown c s)
    ∙ ap (λ (f : List ℕ). line (frame_member c s) f (told_meanings c k (shown_slot s))) (signals-member-shown c s)
    ∙ ap (λ (ms : List (List ℕ)). line (frame_member c s) (signals_member c s) ms) (physical-shown c k s)

-- what a finish says
pub finish-object : (c : Parts) (k : Option CodedData) (past : List LogEntry) (step : Step) (t : Slot) → Shows (open_slot past) t → step ≡ Finish
    → slot_line c k (track_of c past) (settled_count past) t ≡ step_object c k past step
finish-object c k past step t o e =
    let line : Slot → List ℕ = slot_line c k (track_of c past) (settled_count past) in
    ap line o.same ∙ object-shown c k (track_of c past) (settled_count past) o.slot
    ∙ ap (λ (s : Option Slot). option_map_or line s []) (sym o.is_open) ∙ ap (step_object c k past) (sym e)

none-open : (o : Option Slot) → None ≡ option_map shown_slot o → o ≡ None
none-open None e = refl
none-open (Some s) e = absurd (cc)

pub finish-none : (c : Parts) (k : Option CodedData) (past : List LogEntry) (step : Step) → None ≡ option_map shown_slot (open_slot past) → step ≡ Finish
    → [] ≡ step_object c k past step
finish-none c k past step o e = rw (e, none-open (open_slot past) o) refl

-- the numbers of the last messages after an entry
pub settled-done : (e : LogEntry) (past : List LogEntry) (es : List Event) (h : ℕ) → e.reply ≡ Done es → settled_all h es (settled_count past h) ≡ settled_count (e ∷ past) h
settled-done e past es h r = ap (λ (reply : Reply). settled_all h (reply_events reply) (settled_count past h)) (sym r)

pub settled-refused : (e : LogEntry) (past : List LogEntry) (why : Refusal) (h : ℕ) → e.reply ≡ Refused why → settled_count past h ≡ settled_count (e ∷ past) h
settled-refused e past why h r = ap (λ (reply : Reply). settled_all h (reply_events reply) (settled_count past h)) (sym r)

pub wake-object : (c : Parts) (k : Option CodedData) (past : List LogEntry) (step : Step) (t : ℕ) → t ≡ time c past → step ≡ Wake
    → object_line (codes "awake") (time_member t ∷ []) ≡ step_object c k past step
wake-object c k past step t is e = rw (e, is) refl

pub write-object : (c : Parts) (k : Option CodedData) (past : List LogEntry) (step : Step) (t node signal : ℕ) (v : Value) → t ≡ time c past
    → step ≡ Write node signal v → write_line c k t node signal v ≡ step_object c k past step
write-object c k past step t node signal v is e = rw (e, is) refl

-- a list of two values
pub two-values : (a b : List ℕ) → 91 ∷ (a ++ 44 ∷ (b ++ 93 ∷ [])) ≡ json_array (a ∷ b ∷ [])
two-values a b =
    ap (λ t. 91 ∷ t) (sym (ap (λ l. (a ++ l) ++ 93 ∷ []) (append-nil (44 ∷ b)) ∙ append_assoc a (44 ∷ b) (93 ∷ [])))
