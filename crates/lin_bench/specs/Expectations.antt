-- What a bench script expects.
use Rattle.std.specs.Prelude.{ℕ, Bool, false, ◌&&◌, ◌||◌, if◌then◌else◌, List, [], ◌∷◌, Option, Some, None}
use Rattle.std.specs.Prelude.{Result, Ok, Err, codes, length, nat_lt, option_and_then, option_map, reverse}
use Rattle.std.specs.Str.{bytes_eq}
use Rattle.lin_parts.specs.Cluster.{frame_of, table_of}
use Rattle.lin_parts.specs.declared.parts.Parts.{Parts}
use Rattle.lin_core.specs.Tables.{cause_word, causes, look_word, looks, first_with_word, first_with_number}
use Rattle.lin_core.specs.Tables.{refusal_number, refusal_word, refusals}
use Rattle.lin_core.specs.declared.reply.Refusal.{Refusal}
use Rattle.lin_log.specs.Said.{is_number, number}
use Rattle.lin_bench.specs.Fields.{◌>>=◌, count_field, counts_field, frame_field, host_field}
use Rattle.lin_bench.specs.Fields.{number_up_to, or_bad, pair_fields, present_table}
use Rattle.lin_bench.specs.Fields.{range_ends, rows_and_time, signal_fields}
use Rattle.lin_bench.specs.RawValues.{raw_range, raw_value}
use Rattle.lin_bench.specs.RuleLines.{pattern_fields}
use Rattle.lin_bench.specs.Times.{time_field}
use Rattle.lin_bench.specs.Rules.{has_length}
use Rattle.lin_bench.specs.declared.reason.Reason.{Reason}
use Rattle.lin_bench.specs.declared.reason.Reason.TheVariants.{NoData, NoEntry, NoRefusal}
use Rattle.lin_bench.specs.declared.reason.Reason.TheVariants.{ExpectForm, UnknownExpectation, UntilForm, UnknownUntil}
use Rattle.lin_bench.specs.declared.reason.Reason.TheVariants.{WhileForm, UnknownWhile}
use Rattle.lin_log.specs.declared.line_words.Carried.{Carried}
use Rattle.lin_log.specs.declared.line_words.Carried.TheVariants.{Signals, Request as RequestFrame, Response}
use Rattle.lin_bench.specs.declared.expected.Since.{Since}
use Rattle.lin_bench.specs.declared.expected.Since.TheVariants.{Request, Last}
use Rattle.lin_log.specs.declared.pattern.Pattern.{Pattern}
use Rattle.lin_bench.specs.declared.expected.Condition.{Condition}
use Rattle.lin_bench.specs.declared.expected.Condition.TheVariants as condition
use Rattle.lin_bench.specs.declared.expected.Expected.{Expected}
use Rattle.lin_bench.specs.declared.expected.Expected.TheVariants as expected

-- the refusal with a number, 1 to 18, or a name
abbrev pub refusal_called : List ℕ → Option Refusal
refusal_called f =
    if is_number f
    then option_and_then (λ n. first_with_number refusal_number refusals n) (number 18 f)
    else first_with_word refusal_word refusals f

unfoldable pub refusal_field : List ℕ → Result Refusal Reason
refusal_field f = or_bad (refusal_called f) (NoRefusal f)

-- the forms of the expectations: all fields after `expect`, which are shown where there is no form
-- of them, and those after the first word. A wrong number of fields is no form
abbrev pub signal_expectation : Parts → List ℕ → ℕ → ℕ → List ℕ → Option (List ℕ × List ℕ)
    → Result Condition Reason
signal_expectation c s node signal v None =
    raw_value c s signal v >>= (λ value. Ok (condition.Signal node signal value))
signal_expectation c s node signal v (Some ends) =
    raw_range c s signal v ends >>= (λ range. Ok (condition.SignalWithin node signal range.0 range.1))

abbrev pub signal_form : Parts → List (List ℕ) → List (List ℕ) → Result Condition Reason
signal_form c all (n ∷ s ∷ v ∷ []) = do
  at ← signal_fields c n s
  signal_expectation c s at.0 at.1 v (range_ends v)
signal_form c all fs = Err (UnknownExpectation all)

abbrev pub waiting_form : Parts → List (List ℕ) → List (List ℕ) → Result Condition Reason
waiting_form c all (n ∷ k ∷ []) = do
  host ← host_field c n
  count ← number_up_to 1024 k
  Ok (condition.Waiting host count)
waiting_form c all fs = Err (UnknownExpectation all)

-- the fields before `of last` at the end
abbrev pub last_from : List (List ℕ) → Option (List (List ℕ))
last_from (l ∷ o ∷ rows) =
    if bytes_eq l (codes "last") && bytes_eq o (codes "of") then Some (reverse rows) else None
last_from backwards = None

abbrev pub before_last : List (List ℕ) → Option (List (List ℕ))
before_last fs = last_from (reverse fs)

-- rows, and the number after them where they end with `within`, a number and `ms`, and then
-- `of last` or nothing: from which earlier message the time counts
abbrev pub since_request : List (List ℕ) × Option (List ℕ) → List (List ℕ) × Option (List ℕ × Since)
since_request (rows, n) = (rows, option_map (λ f. (f, Request)) n)

abbrev pub since_last : List (List ℕ) → List (List ℕ) × Option (List ℕ)
    → List (List ℕ) × Option (List ℕ × Since)
since_last fs (rows, None) = (fs, None)
since_last fs (rows, Some n) = (rows, Some (n, Last))

abbrev pub limit_by : List (List ℕ) → Option (List (List ℕ)) → List (List ℕ) × Option (List ℕ × Since)
limit_by fs None = since_request (rows_and_time (codes "within") fs)
limit_by fs (Some rows) = since_last fs (rows_and_time (codes "within") rows)

unfoldable pub rows_and_limit : List (List ℕ) → List (List ℕ) × Option (List ℕ × Since)
rows_and_limit fs = limit_by fs (before_last fs)

-- a pattern of one field at least, and in how many milliseconds the message is to arrive, where that
-- is said
unfoldable pub pattern_form : List (List ℕ) → ℕ → ℕ → List (List ℕ) × Option (List ℕ × Since)
    → Result Expected Reason
pattern_form all from to ([], limit) = Err (UnknownExpectation all)
pattern_form all from to (f ∷ fs, None) =
    pattern_fields (f ∷ fs) >>= (λ pattern. Ok (expected.Message from to pattern))
pattern_form all from to (f ∷ fs, Some limit) = do
  pattern ← pattern_fields (f ∷ fs)
  most ← count_field limit.0
  Ok (expected.MessageWithin from to pattern most limit.1)

abbrev pub message_form : Parts → List (List ℕ) → List (List ℕ) → Result Expected Reason
message_form c all (from ∷ to ∷ f ∷ fs) = do
  pair ← pair_fields c from to
  pattern_form all pair.0 pair.1 (rows_and_limit (f ∷ fs))
message_form c all fs = Err (UnknownExpectation all)

-- the oldest message of all
abbrev pub next_message_form : Parts → List (List ℕ) → List (List ℕ) → Result Expected Reason
next_message_form c all (from ∷ to ∷ f ∷ fs) = do
  pair ← pair_fields c from to
  pattern ← pattern_fields (f ∷ fs)
  Ok (expected.NextMessage pair.0 pair.1 pattern)
next_message_form c all fs = Err (UnknownExpectation all)

abbrev pub next_form : Parts → List (List ℕ) → List (List ℕ) → Result Expected Reason
next_form c all [] = Err (UnknownExpectation all)
next_form c all (word ∷ fs) =
    if bytes_eq word (codes "message") then next_message_form c all fs
    else Err (UnknownExpectation all)

abbrev pub sent_form : Parts → List (List ℕ) → List (List ℕ) → Result Expected Reason
sent_form c all (n ∷ []) = host_field c n >>= (λ host. Ok (expected.Sent host))
sent_form c all fs = Err (UnknownExpectation all)

abbrev pub loss_expectation : Parts → List (List ℕ) → List ℕ → List ℕ → Result Expected Reason
loss_expectation c all n why = do
  host ← host_field c n
  how ← or_bad (first_with_word cause_word causes why) (UnknownExpectation all)
  Ok (expected.Lost host how)

abbrev pub lost_form : Parts → List (List ℕ) → List (List ℕ) → Result Expected Reason
lost_form c all (n ∷ why ∷ []) = loss_expectation c all n why
lost_form c all fs = Err (UnknownExpectation all)

-- how many data bytes a frame has: a frame of a message has eight (ISO 17987-2)
abbrev pub data_length : Parts → Carried → ℕ
data_length c (Signals f) = (frame_of c f).layout.len
data_length c RequestFrame = 8
data_length c Response = 8

-- a pattern that data of the frame may match
abbrev pub data_pattern : Parts → List ℕ → Carried → Pattern → Result Pattern Reason
data_pattern c f frame pattern =
    if has_length pattern (data_length c frame) then Ok pattern
    else Err (NoData f (data_length c frame))

-- a frame, and a pattern of its data bytes, where it is said
abbrev pub frame_with : Parts → List ℕ → List (List ℕ) → Result Condition Reason
frame_with c f fs = do
  frame ← frame_field c f
  said ← pattern_fields fs
  pattern ← data_pattern c f frame said
  Ok (condition.Frame frame (Some pattern))

abbrev pub frame_form : Parts → List (List ℕ) → List (List ℕ) → Result Condition Reason
frame_form c all [] = Err (UnknownExpectation all)
frame_form c all (f ∷ []) = frame_field c f >>= (λ frame. Ok (condition.Frame frame None))
frame_form c all (f ∷ g ∷ fs) = frame_with c f (g ∷ fs)

abbrev pub seen_form : List (List ℕ) → List (List ℕ) → Result Condition Reason
seen_form all (word ∷ []) =
    or_bad (first_with_word look_word looks word) (UnknownExpectation all)
    >>= (λ how. Ok (condition.Seen how))
seen_form all fs = Err (UnknownExpectation all)

-- an entry that a table has, by its number (LIN 2.2A, section 9.2.5)
abbrev pub entry_field : Parts → List ℕ → ℕ → List ℕ → Result ℕ Reason
entry_field c t table e =
    number_up_to 1023 e
    >>= (λ entry. if nat_lt entry (length (table_of c table)) then Ok entry
    else Err (NoEntry t (length (table_of c table))))

abbrev pub slot_form : Parts → List (List ℕ) → List (List ℕ) → Result Condition Reason
slot_form c all (t ∷ e ∷ []) = do
  table ← present_table c t
  entry ← entry_field c t table e
  Ok (condition.Slot table entry)
slot_form c all fs = Err (UnknownExpectation all)

-- the cycle of a frame: exactly, or within a tolerance
abbrev pub exact_cycle : Parts → List ℕ → List ℕ → Result Expected Reason
exact_cycle c f t = do
  frame ← frame_field c f
  time ← time_field t
  Ok (expected.Cycle frame time None)

abbrev pub near_cycle : Parts → List ℕ → List ℕ → List ℕ → Result Expected Reason
near_cycle c f t d = do
  frame ← frame_field c f
  time ← time_field t
  within ← time_field d
  Ok (expected.Cycle frame time (Some within))

abbrev pub cycle_within_form : Parts → List (List ℕ) → List (List ℕ) → Result Expected Reason
cycle_within_form c all (f ∷ t ∷ sign ∷ d ∷ unit ∷ []) =
    if bytes_eq sign (codes "+-") && bytes_eq unit (codes "ms") then near_cycle c f t d
    else Err (UnknownExpectation all)
cycle_within_form c all fs = Err (UnknownExpectation all)

abbrev pub cycle_form : Parts → List (List ℕ) → List (List ℕ) → Result Expected Reason
cycle_form c all (f ∷ t ∷ unit ∷ []) =
    if bytes_eq unit (codes "ms") then exact_cycle c f t else Err (UnknownExpectation all)
cycle_form c all fs = cycle_within_form c all fs

abbrev pub table_form : Parts → List (List ℕ) → List (List ℕ) → Result Expected Reason
table_form c all (t ∷ []) = present_table c t >>= (λ table. Ok (expected.Table table))
table_form c all fs = Err (UnknownExpectation all)

abbrev pub refused_form : List (List ℕ) → List (List ℕ) → Result Expected Reason
refused_form all (f ∷ []) = refusal_field f >>= (λ why. Ok (expected.Refused why))
refused_form all fs = Err (UnknownExpectation all)

abbrev pub lone_form : List (List ℕ) → Expected → List (List ℕ) → Result Expected Reason
lone_form all what [] = Ok what
lone_form all what (f ∷ fs) = Err (UnknownExpectation all)

abbrev pub no_message_form : Parts → List (List ℕ) → List (List ℕ) → Result Expected Reason
no_message_form c all (from ∷ to ∷ []) =
    pair_fields c from to >>= (λ pair. Ok (expected.NoMessage pair.0 pair.1))
no_message_form c all fs = Err (UnknownExpectation all)

abbrev pub no_lost_form : Parts → List (List ℕ) → List (List ℕ) → Result Expected Reason
no_lost_form c all [] = Ok (expected.NoLost None)
no_lost_form c all (n ∷ []) = host_field c n >>= (λ host. Ok (expected.NoLost (Some host)))
no_lost_form c all fs = Err (UnknownExpectation all)

-- how many messages there are
abbrev pub messages_form : Parts → List (List ℕ) → List (List ℕ) → Result Condition Reason
messages_form c all (from ∷ to ∷ k ∷ []) = do
  pair ← pair_fields c from to
  count ← counts_field k (range_ends k)
  Ok (condition.Messages pair.0 pair.1 count.0 count.1)
messages_form c all fs = Err (UnknownExpectation all)

-- what isn't to be
abbrev pub no_form : Parts → List (List ℕ) → List (List ℕ) → Result Expected Reason
no_form c all [] = Err (UnknownExpectation all)
no_form c all (word ∷ fs) =
    if bytes_eq word (codes "message") then no_message_form c all fs
    else if bytes_eq word (codes "lost") then no_lost_form c all fs
    else Err (UnknownExpectation all)

abbrev pub changed_form : Parts → List (List ℕ) → List (List ℕ) → Result Condition Reason
changed_form c all (n ∷ s ∷ []) = signal_fields c n s >>= (λ at. Ok (condition.Changed at.0 at.1 None))
changed_form c all fs = Err (UnknownExpectation all)

-- the condition that a word names, with the fields after it, if it names one
abbrev pub condition_form : Parts → List (List ℕ) → List ℕ → List (List ℕ)
    → Result (Option Condition) Reason
condition_form c all word fs =
    if bytes_eq word (codes "signal") then signal_form c all fs >>= (λ what. Ok (Some what))
    else if bytes_eq word (codes "waiting") then waiting_form c all fs >>= (λ what. Ok (Some what))
    else if bytes_eq word (codes "messages") then messages_form c all fs >>= (λ what. Ok (Some what))
    else if bytes_eq word (codes "seen") then seen_form all fs >>= (λ what. Ok (Some what))
    else if bytes_eq word (codes "frame") then frame_form c all fs >>= (λ what. Ok (Some what))
    else if bytes_eq word (codes "slot") then slot_form c all fs >>= (λ what. Ok (Some what))
    else if bytes_eq word (codes "changed") then changed_form c all fs >>= (λ what. Ok (Some what))
    else Ok None

-- what isn't to hold
abbrev pub not_condition : List (List ℕ) → Option Condition → Result Expected Reason
not_condition all None = Err (UnknownExpectation all)
not_condition all (Some what) = Ok (expected.Not what)

abbrev pub not_form : Parts → List (List ℕ) → List (List ℕ) → Result Expected Reason
not_form c all [] = Err (UnknownExpectation all)
not_form c all (word ∷ fs) = condition_form c all word fs >>= not_condition all

-- the expectation of something else that a word names
abbrev pub other_expectation : Parts → List (List ℕ) → List ℕ → List (List ℕ)
    → Result Expected Reason
other_expectation c all word fs =
    if bytes_eq word (codes "not") then not_form c all fs
    else if bytes_eq word (codes "message") then message_form c all fs
    else if bytes_eq word (codes "next") then next_form c all fs
    else if bytes_eq word (codes "no") then no_form c all fs
    else if bytes_eq word (codes "sent") then sent_form c all fs
    else if bytes_eq word (codes "lost") then lost_form c all fs
    else if bytes_eq word (codes "cycle") then cycle_form c all fs
    else if bytes_eq word (codes "table") then table_form c all fs
    else if bytes_eq word (codes "done") then lone_form all expected.Done fs
    else if bytes_eq word (codes "refused") then refused_form all fs
    else if bytes_eq word (codes "asleep") then lone_form all expected.Asleep fs
    else if bytes_eq word (codes "awake") then lone_form all expected.Awake fs
    else Err (UnknownExpectation all)

-- the expectation that a word names, with the fields after it
abbrev pub is_or : Result Expected Reason → Option Condition → Result Expected Reason
is_or other None = other
is_or other (Some what) = Ok (expected.Is what)

unfoldable pub word_expectation : Parts → List (List ℕ) → List ℕ → List (List ℕ)
    → Result Expected Reason
word_expectation c all word fs =
    condition_form c all word fs >>= is_or (other_expectation c all word fs)

-- a signal changes from the beginning of a line of slots on, so that none has changed there
abbrev pub begins_change : List (List ℕ) → Bool
begins_change [] = false
begins_change (word ∷ fs) = bytes_eq word (codes "changed")

abbrev pub no_change : List ℕ → List (List ℕ) → Bool
no_change word fs = bytes_eq word (codes "not") && begins_change fs

abbrev pub needs_slots : List ℕ → List (List ℕ) → Bool
needs_slots word fs = bytes_eq word (codes "changed") || no_change word fs

-- what is expected, by the fields after `expect`
unfoldable pub expectation : Parts → List (List ℕ) → Result Expected Reason
expectation c [] = Err ExpectForm
expectation c (word ∷ fs) =
    if needs_slots word fs then Err (UnknownExpectation (word ∷ fs))
    else word_expectation c (word ∷ fs) word fs

-- what comes after a step alone, or stands for what doesn't come
abbrev pub never_comes : List ℕ → Bool
never_comes word =
    bytes_eq word (codes "done") || bytes_eq word (codes "refused") || bytes_eq word (codes "no")

abbrev pub until_reason : Reason → Reason
until_reason (UnknownExpectation fs) = UnknownUntil fs
until_reason why = why

abbrev pub as_until : Result Expected Reason → Result Expected Reason
as_until (Ok what) = Ok what
as_until (Err why) = Err (until_reason why)

-- what speaks of single events or of a step
abbrev pub passes : List ℕ → Bool
passes word =
    bytes_eq word (codes "message") || bytes_eq word (codes "next") || bytes_eq word (codes "sent")
    || bytes_eq word (codes "lost") || bytes_eq word (codes "done") || bytes_eq word (codes "refused")

abbrev pub while_reason : Reason → Reason
while_reason (UnknownExpectation fs) = UnknownWhile fs
while_reason why = why

abbrev pub as_while : Result Expected Reason → Result Expected Reason
as_while (Ok what) = Ok what
as_while (Err why) = Err (while_reason why)

-- what is to hold, by the fields after `while`
unfoldable pub while_form : Parts → List (List ℕ) → Result Expected Reason
while_form c [] = Err WhileForm
while_form c (word ∷ fs) =
    if passes word then Err (UnknownWhile (word ∷ fs))
    else as_while (word_expectation c (word ∷ fs) word fs)

-- what is waited for, by the fields after `until`
unfoldable pub until_form : Parts → List (List ℕ) → Result Expected Reason
until_form c [] = Err UntilForm
until_form c (word ∷ fs) =
    if never_comes word || no_change word fs then Err (UnknownUntil (word ∷ fs))
    else as_until (word_expectation c (word ∷ fs) word fs)
