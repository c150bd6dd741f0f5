-- The data of a page, in which no `<` stands.
use Rattle.std.proofs.Common.{◌≡◌, ℕ, zero, suc, List, [], ◌∷◌, ◌++◌, refl, ap, not, ◌/◌, ◌%◌, ◌^◌, ◌<◌, ◌+◌, ◌==◌, arith, add-one, Bool, true, false, nat_lt, flat_map, Option, Some, None, codes, length, map, if◌then◌else◌}
use Rattle.std.specs.Option.{option_to_list}
use Rattle.std.specs.Borrow.{Bor}
use Rattle.std.specs.List.{list_all}
use Rattle.std.specs.Fmt.{decimal, digits, digits_onto, digit_glyph}
use Rattle.std.proofs.lemmas.Bool.{and_parts}
use Rattle.std.proofs.lemmas.Grind.{common_steps}
use Rattle.hex.specs.Hex.{encode_upper, encode_with, upper_digits}
use Rattle.lin_bench.specs.declared.files.ScriptFile.{ScriptFile}
use Rattle.lin_frame.specs.Words.{numbers}
use Rattle.lin_frame.specs.declared.value.Value.{Value}
use Rattle.lin_frame.specs.declared.value.Value.TheVariants.{Scalar, Bytes}
use Rattle.lin_parts.specs.Cluster.{frames_with, signal_of}
use Rattle.lin_parts.specs.declared.parts.Parts.{Parts}
use Rattle.lin_core.specs.Tables.{cause_word, direction_word, refusal_number}
use Rattle.lin_core.specs.declared.event.Event.{Event}
use Rattle.lin_core.specs.declared.event.Event.TheVariants as event
use Rattle.lin_core.specs.declared.event.Seen.{Seen}
use Rattle.lin_core.specs.declared.event.Seen.TheVariants as seen
use Rattle.lin_core.specs.declared.link.Cause.{Cause}
use Rattle.lin_core.specs.declared.link.Cause.TheVariants as cause
use Rattle.lin_core.specs.declared.link.Direction.{Direction}
use Rattle.lin_core.specs.declared.link.Direction.TheVariants as direction
use Rattle.lin_core.specs.declared.log.LogEntry.{LogEntry}
use Rattle.lin_core.specs.declared.port.PortId.{PortId}
use Rattle.lin_core.specs.declared.port.PortId.TheVariants.{Bus, Host, Node}
use Rattle.lin_core.specs.declared.reply.Reply.{Reply}
use Rattle.lin_core.specs.declared.reply.Reply.TheVariants.{Done, Refused}
use Rattle.lin_core.specs.declared.step.Step.{Step}
use Rattle.lin_core.specs.declared.step.Step.TheVariants.{Send, Write, Open, Answer, Leave, Hurt, Finish, Timeout, Switch, AskSleep, Wake, Close}
use Rattle.lin_log.specs.Language.{nameless, plain, word_of}
use Rattle.lin_log.specs.CallerTexts.{seen_byte, seen_text}
use Rattle.lin_log.specs.Words.{Word, event_words, hex_word, line, line_tail, log_text, port_number_word, reply_line, reply_words, seen_words, step_line, step_words, text, value_word, word_text}
use Rattle.lin_log.specs.Words.Word.{Fixed, Number, Port}
use Rattle.lin_log.proofs.Items.{at-place, both, joined}
use Rattle.lin_values.specs.Coded.{CodedData, RangeData, encoding_of, range_in}
use Rattle.lin_values.specs.Shown.{decimal_shown, fraction, last_digits, sign}
use Rattle.lin_values.specs.declared.decimals.Decimal.{Decimal}
use Rattle.lin_values.specs.declared.codings.CodingType.{CodingType}
use Rattle.lin_values.specs.declared.codings.Item.{Item}
use Rattle.lin_values.specs.declared.codings.Item.TheVariants.{Logical, Physical, Bcd, Ascii}
use Rattle.lin_values.specs.declared.codings.PlacedItem.{PlacedItem}
use Rattle.lin_values.proofs.Powers.{first-digit, rest-below}
use Rattle.lin_bench.specs.Played.{is_unmet}
use Rattle.lin_bench.specs.declared.got.Judgement.{Judgement}
use Rattle.lin_tool.specs.Page.{DataAreInert, alone_line, cluster_lines, data_head, log_head, unmet_data_line}
use Rattle.lin_tool.specs.PageFields.{page_byte, field, guarded_text, guarded_byte, is_inert, is_unescaped, no_less}
use Rattle.lin_tool.specs.PageMeanings.{coded_lines, encoding_lines, logical_line, meaning_lines, physical_line, physical_range_line, type_lines}
use Rattle.lin_tool.specs.Placing.{missed_line}

abbrev are_inert : List (List ℕ) → Bool
are_inert = list_all is_inert

-- ---- texts of texts
pub more : (a b : List ℕ) → is_inert a ≡ true → is_inert b ≡ true → is_inert (a ++ b) ≡ true
more a b h k = joined no_less a b h k

pub each : {X : Type 0} (f : X → List ℕ) → ((x : X) → is_inert (f x) ≡ true) → (xs : List X) → is_inert (flat_map f xs) ≡ true
each f h [] = refl
each f h (x ∷ xs) = more (f x) (flat_map f xs) (h x) (each f h xs)

tail-inert : (ws : List (List ℕ)) → are_inert ws ≡ true → is_inert (line_tail ws) ≡ true
tail-inert [] h = refl
tail-inert (w ∷ ws) h =
    let p = and_parts (is_inert w) (are_inert ws) h in
    more w (line_tail ws) p.0 (tail-inert ws p.1)

line-inert : (ws : List (List ℕ)) → are_inert ws ≡ true → is_inert (line ws) ≡ true
line-inert [] h = refl
line-inert (w ∷ ws) h =
    let p = and_parts (is_inert w) (are_inert ws) h in
    more w (line_tail ws) p.0 (tail-inert ws p.1)

where-so : (t : Bool) (a b : List ℕ) → is_inert a ≡ true → is_inert b ≡ true → is_inert (if t then a else b) ≡ true
where-so true a b h k = h
where-so false a b h k = k

-- ---- numbers, bytes, texts
digits-inert : (k n : ℕ) (acc : List ℕ) → is_inert acc ≡ true → is_inert (digits_onto k 10 false n acc) ≡ true
digits-inert zero n acc h = h
digits-inert (suc k) n acc h =
    let g : no_less (digit_glyph false (n % 10)) ≡ true = grind (arith, common_steps) in
    let one : is_inert (digit_glyph false (n % 10) ∷ acc) ≡ true = rw (g, h) refl in
    elim (n / 10 == 0) as (λ b. is_inert (if b then digit_glyph false (n % 10) ∷ acc else digits_onto k 10 false (n / 10) (digit_glyph false (n % 10) ∷ acc)) ≡ true) [
      | true ↦ one
      | false ↦ digits-inert k (n / 10) (digit_glyph false (n % 10) ∷ acc) one
    ]

pub number-inert : (n : ℕ) → is_inert (decimal n) ≡ true
unfolding digits
number-inert n = digits-inert 64 n [] refl

encoded-inert : (bs : List ℕ) → is_inert (encode_upper bs) ≡ true
unfolding encode_with
encoded-inert [] = refl
encoded-inert (b ∷ bs) = rw (at-place no_less upper_digits (b / 16) refl refl, at-place no_less upper_digits (b % 16) refl refl, encoded-inert bs) refl

hex-inert : (bs : List ℕ) → is_inert (hex_word bs) ≡ true
hex-inert [] = refl
hex-inert (b ∷ bs) = encoded-inert (b ∷ bs)

value-inert : (v : Value) → is_inert (value_word v) ≡ true
value-inert (Scalar n) = number-inert n
value-inert (Bytes bytes) = hex-inert bytes

digit-inert : (x : ℕ) → x < 10 → no_less (48 + x) ≡ true
digit-inert x h = grind (arith, common_steps)

last-inert : (k n : ℕ) → n < 10 ^ k → is_inert (last_digits k n) ≡ true
last-inert zero n h = refl
last-inert (suc k) n h =
    both (no_less (48 + n / 10 ^ k)) (is_inert (last_digits k (n % 10 ^ k))) (digit-inert (n / 10 ^ k) (first-digit k n (rw add-one h)))
    (last-inert k (n % 10 ^ k) (rest-below k n))

fraction-inert : (k n : ℕ) → n < 10 ^ k → is_inert (fraction k n) ≡ true
fraction-inert zero n h = refl
fraction-inert (suc k) n h = last-inert (suc k) n h

sign-inert : (b : Bool) → is_inert (sign b) ≡ true
sign-inert true = refl
sign-inert false = refl

shown-inert : (d : Decimal) → is_inert (decimal_shown d) ≡ true
shown-inert d =
    more (sign d.negative) (decimal (d.digits / 10 ^ d.places) ++ fraction d.places (d.digits % 10 ^ d.places)) (sign-inert d.negative)
    (more (decimal (d.digits / 10 ^ d.places)) (fraction d.places (d.digits % 10 ^ d.places)) (number-inert (d.digits / 10 ^ d.places))
    (fraction-inert d.places (d.digits % 10 ^ d.places) (rest-below d.places d.digits)))

plain-inert : (b : ℕ) (t : Bool) → is_unescaped b ≡ t → is_inert (if t then b ∷ [] else 37 ∷ encode_upper (b ∷ [])) ≡ true
plain-inert b true h = let g : no_less b ≡ true = grind (arith, common_steps) in rw g refl
plain-inert b false h = encoded-inert (b ∷ [])

pub field-inert : (t : List ℕ) → is_inert (field t) ≡ true
field-inert t = each page_byte (λ b. plain-inert b (is_unescaped b) refl) t

guarded-by : (b : ℕ) (t : Bool) → (b == 60) ≡ t → is_inert (if t then codes "%3C" else b ∷ []) ≡ true
guarded-by b true h = refl
guarded-by b false h = let g : no_less b ≡ true = ap not h in rw g refl

pub guarded-inert : (t : List ℕ) → is_inert (guarded_text t) ≡ true
guarded-inert t = each guarded_byte (λ b. guarded-by b (b == 60) refl) t

-- ---- what stands before the log
alone-inert : (c : Parts) (s : ℕ) → is_inert (alone_line c s) ≡ true
alone-inert c s =
    let ws = codes "alone" ∷ decimal s ∷ value_word (signal_of c s).initial ∷ [] in
    where-so (length (frames_with c s) == 0) (line ws) [] (line-inert ws (rw (number-inert s, value-inert (signal_of c s).initial) refl)) refl

logical-inert : (s : ℕ) (item : Item) → is_inert (logical_line s item) ≡ true
logical-inert s (Logical v t) =
    line-inert (codes "logical" ∷ decimal s ∷ decimal v ∷ field t ∷ []) (rw (number-inert s, number-inert v, field-inert t) refl)
logical-inert s (Physical from to scale offset unit) = refl
logical-inert s Bcd = refl
logical-inert s Ascii = refl

range-inert : (s : ℕ) (r : Option RangeData) → is_inert (physical_range_line s r) ≡ true
range-inert s None = refl
range-inert s (Some r) =
    line-inert (codes "physical" ∷ decimal s ∷ decimal r.min ∷ decimal r.max ∷ decimal_shown r.scale ∷ decimal_shown r.offset ∷ field r.unit ∷ [])
    (rw (number-inert s, number-inert r.min, number-inert r.max, shown-inert r.scale, shown-inert r.offset, field-inert r.unit) refl)

items-inert : (s : ℕ) (items : List PlacedItem) → is_inert (encoding_lines s items) ≡ true
items-inert s items =
    more (flat_map (λ (p : PlacedItem). logical_line s p.item) items) (flat_map (λ (p : PlacedItem). physical_line s p.item) items)
    (each (λ (p : PlacedItem). logical_line s p.item) (λ (p : PlacedItem). logical-inert s p.item) items)
    (each (λ (p : PlacedItem). physical_line s p.item) (λ (p : PlacedItem). range-inert s (range_in p.item)) items)

type-inert : (s : ℕ) (t : Option CodingType) → is_inert (type_lines s t) ≡ true
type-inert s None = refl
type-inert s (Some t) = items-inert s t.items

coded-inert : (c : Parts) (k : Option CodedData) → is_inert (coded_lines c k) ≡ true
coded-inert c None = refl
coded-inert c (Some k) = each (meaning_lines k) (λ s. type-inert s (encoding_of k s)) (numbers (length c.signals))

head-inert : (c : Parts) (file : List ℕ) → is_inert (data_head c file) ≡ true
head-inert c file =
    more (line (codes "file" ∷ field file ∷ [])) (line (codes "speed" ∷ decimal c.speed ∷ []))
    (line-inert (codes "file" ∷ field file ∷ []) (rw (field-inert file) refl))
    (line-inert (codes "speed" ∷ decimal c.speed ∷ []) (rw (number-inert c.speed) refl))

log-head-inert : (c : Parts) (k : Option CodedData) → is_inert (log_head c k) ≡ true
log-head-inert c k =
    more (flat_map (alone_line c) (numbers (length c.signals))) (coded_lines c k ++ line (codes "log" ∷ []))
    (each (alone_line c) (alone-inert c) (numbers (length c.signals)))
    (more (coded_lines c k) (line (codes "log" ∷ [])) (coded-inert c k) refl)

-- ---- the log, by numbers
byte-seen : (b : ℕ) (t : Bool) → no_less b ≡ true → no_less (if t then 63 else b) ≡ true
byte-seen b true h = refl
byte-seen b false h = h

text-seen : (t : List ℕ) → is_inert t ≡ true → is_inert (seen_text t) ≡ true
text-seen [] h = refl
text-seen (b ∷ bs) h =
    let p = and_parts (no_less b) (is_inert bs) h in both (no_less (seen_byte b)) (is_inert (seen_text bs)) (byte-seen b (b == 10) p.0) (text-seen bs p.1)

called-inert : (n : ℕ) → is_inert (seen_text (word_of nameless n)) ≡ true
called-inert n = text-seen (word_of nameless n) (where-so (nat_lt n 0) [] (decimal n) refl (number-inert n))

way-inert : (d : Direction) → is_inert (seen_text (direction_word d)) ≡ true
way-inert direction.Down = refl
way-inert direction.Up = refl

abbrev are_said : List Word → Bool
are_said ws = are_inert (map (word_text plain) ws)

step-inert : (s : Step) → are_said (step_words s) ≡ true
step-inert (Send from to message) = rw (called-inert from, called-inert to, hex-inert message) refl
step-inert (Write by signal value) = rw (called-inert by, called-inert signal, value-inert value) refl
step-inert Open = refl
step-inert (Answer node) = rw (called-inert node) refl
step-inert (Leave node) = rw (called-inert node) refl
step-inert (Hurt bytes) = rw (hex-inert bytes) refl
step-inert Finish = refl
step-inert (Timeout node dir) = rw (called-inert node, way-inert dir) refl
step-inert (Switch table) = rw (called-inert table) refl
step-inert AskSleep = refl
step-inert Wake = refl
step-inert (Close host) = rw (called-inert host) refl

port-number-inert : (n : ℕ) → is_inert (port_number_word plain n) ≡ true
port-number-inert n = where-so (nat_lt n 0) (58 ∷ []) (decimal n) refl (number-inert n)

port-inert : (p : PortId) → is_inert (word_text plain (Port p)) ≡ true
port-inert Bus = refl
port-inert (Host n) = text-seen (port_number_word plain n) (port-number-inert n)
port-inert (Node n) = text-seen (port_number_word plain n) (port-number-inert n)

seen-inert : (s : Seen) → are_said (seen_words s) ≡ true
seen-inert seen.Silent = refl
seen-inert seen.NoAnswer = refl
seen-inert (seen.Good bytes) = rw (hex-inert bytes) refl
seen-inert seen.Damaged = refl
seen-inert seen.Collided = refl

cause-inert : (c : Cause) → is_inert (seen_text (cause_word c)) ≡ true
cause-inert cause.Damaged = refl
cause-inert cause.TimedOut = refl
cause-inert cause.Slept = refl

event-inert : (e : Event) → are_said (event_words e) ≡ true
event-inert (event.Accepted host number) = rw (called-inert host, number-inert number) refl
event-inert (event.Slot table entry header) = rw (called-inert table, number-inert entry, hex-inert (option_to_list header)) refl
event-inert event.Service = refl
event-inert (event.Due node) = rw (called-inert node) refl
event-inert (event.Put node answer) = rw (called-inert node, hex-inert answer) refl
event-inert (event.Seen s) = seen-inert s
event-inert (event.Message from to bytes) = rw (called-inert from, called-inert to, hex-inert bytes) refl
event-inert (event.Sent host number) = rw (called-inert host, number-inert number) refl
event-inert (event.Lost host number why) = rw (called-inert host, number-inert number, cause-inert why) refl
event-inert event.Asleep = refl

told-inert : (ws : List Word) → are_said ws ≡ true → is_inert (reply_line plain ws) ≡ true
told-inert ws h = tail-inert (map (word_text plain) ws) h

events-inert : (es : List Event) → is_inert (flat_map (reply_line plain) (map event_words es)) ≡ true
events-inert [] = refl
events-inert (e ∷ es) =
    more (reply_line plain (event_words e)) (flat_map (reply_line plain) (map event_words es)) (told-inert (event_words e) (event-inert e)) (events-inert es)

reply-inert : (r : Reply) → is_inert (flat_map (reply_line plain) (reply_words r)) ≡ true
reply-inert (Done events) = events-inert events
reply-inert (Refused r) =
    let ws : List Word = Fixed (codes "refused") ∷ Number (refusal_number r) ∷ [] in
    more (reply_line plain ws) [] (told-inert ws (rw (number-inert (refusal_number r)) refl)) refl

step-line-inert : (p : PortId) (s : Step) → is_inert (step_line plain p s) ≡ true
step-line-inert p s =
    line-inert (map (word_text plain) (Port p ∷ step_words s)) (both (is_inert (word_text plain (Port p))) (are_said (step_words s)) (port-inert p) (step-inert s))

entries-inert : (past es : List LogEntry) → is_inert (log_text plain (λ e p. reply_words e.reply) past es) ≡ true
entries-inert past [] = refl
entries-inert past (e ∷ es) =
    let replies = flat_map (reply_line plain) (reply_words e.reply) in
    let rest = log_text plain (λ e p. reply_words e.reply) (e ∷ past) es in
    more (step_line plain e.port e.step) (replies ++ rest) (step-line-inert e.port e.step) (more replies rest (reply-inert e.reply) (entries-inert (e ∷ past) es))

log-inert : (log : List LogEntry) → is_inert (text log) ≡ true
log-inert log = entries-inert [] log

-- ---- all of it
unmet-inert : (named : Option (Bor (List ℕ))) (fs : List ScriptFile) (c : Parts) (log : List LogEntry) (j : Judgement) → is_inert (unmet_data_line named fs c log j) ≡ true
unmet-inert named fs c log j =
    let ws = codes "unmet" ∷ decimal j.entries ∷ field (missed_line named fs c log j) ∷ [] in
    where-so (is_unmet j.judged) (line ws) [] (line-inert ws (rw (number-inert j.entries, field-inert (missed_line named fs c log j)) refl)) refl

pub data-inert : DataAreInert
data-inert named fs c k file log judgements =
    let unmet = flat_map (unmet_data_line named fs c log) judgements in
    let before = data_head c file ++ guarded_text (cluster_lines c) in
    let head = before ++ log_head c k in
    more (head ++ text log) unmet
    (more head (text log)
    (more before (log_head c k) (more (data_head c file) (guarded_text (cluster_lines c)) (head-inert c file) (guarded-inert (cluster_lines c))) (log-head-inert c k))
    (log-inert log))
    (each (unmet_data_line named fs c log) (unmet-inert named fs c log) judgements)
