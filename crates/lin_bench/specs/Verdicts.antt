-- Whether what a bench script expects is so, given the history before it: the entries of a log, the
-- newest first.
use Rattle.std.specs.Prelude.{ℕ, ◌==◌, ◌&&◌, ◌||◌, Bool, true, false, not, nat_le, nat_lt, if◌then◌else◌, List, []}
use Rattle.std.specs.Prelude.{◌∷◌, ◌++◌, filter, length, slice_get, Option, Some, None, count_by}
use Rattle.std.specs.Prelude.{find, map, option_and_then, option_map, reverse, take, slice_index, ◌*◌, ◌+◌, ◌-◌}
use Rattle.std.specs.List.{filter_map, list_any}
use Rattle.std.specs.Option.{option_map_or}
use Rattle.lin_frame.specs.declared.value.Value.{Value}
use Rattle.lin_frame.specs.declared.value.Value.TheVariants.{Scalar, Bytes}
use Rattle.lin_parts.specs.Cluster.{line_of, nodes}
use Rattle.lin_parts.specs.declared.parts.Entry.{Entry}
use Rattle.lin_parts.specs.declared.parts.Entry.TheVariants.{MasterReq, SlaveResp, Fixed}
use Rattle.lin_parts.specs.declared.parts.Parts.{Parts}
use Rattle.lin_core.specs.History.{Slot, asleep, events, finished_slot, open_slot, time}
use Rattle.lin_core.specs.Links.{waiting}
use Rattle.lin_core.specs.Signals.{carried_by, value_at}
use Rattle.lin_core.specs.Slots.{next_due}
use Rattle.lin_core.specs.Tables.{cause_number, look_number, look_of, refusal_number}
use Rattle.lin_core.specs.declared.event.Event.{Event}
use Rattle.lin_core.specs.declared.event.Event.TheVariants as event
use Rattle.lin_core.specs.declared.event.Look.{Look}
use Rattle.lin_core.specs.declared.event.Look.TheVariants as look
use Rattle.lin_core.specs.declared.event.Seen.{Seen}
use Rattle.lin_core.specs.declared.event.Seen.TheVariants.{Good}
use Rattle.lin_core.specs.declared.link.Cause.{Cause}
use Rattle.lin_core.specs.declared.log.LogEntry.{LogEntry}
use Rattle.lin_core.specs.declared.reply.Refusal.{Refusal}
use Rattle.lin_core.specs.declared.reply.Reply.{Reply}
use Rattle.lin_core.specs.declared.reply.Reply.TheVariants.{Done, Refused}
use Rattle.lin_log.specs.LastFinish.{before_last_finish}
use Rattle.lin_bench.specs.Meant.{is_among_values}
pub use Rattle.lin_bench.specs.Rules.{same_frame, same_value}
use Rattle.lin_bench.specs.Rules.{fits}
use Rattle.lin_bench.specs.Pending.{pending}
use Rattle.lin_log.specs.declared.line_words.Carried.{Carried}
use Rattle.lin_log.specs.declared.line_words.Carried.TheVariants.{Signals, Request as RequestFrame, Response}
use Rattle.lin_bench.specs.declared.conditions.Finding.{Finding}
use Rattle.lin_bench.specs.declared.expected.Condition.{Condition}
use Rattle.lin_bench.specs.declared.expected.Condition.TheVariants as condition
use Rattle.lin_bench.specs.declared.expected.Expected.{Expected}
use Rattle.lin_bench.specs.declared.expected.Expected.TheVariants as expected
use Rattle.lin_bench.specs.declared.expected.SaidTime.{SaidTime}
use Rattle.lin_bench.specs.declared.expected.Since.{Since}
use Rattle.lin_bench.specs.declared.expected.Since.TheVariants.{Request, Last}
use Rattle.lin_bench.specs.declared.got.Got.{Got}
use Rattle.lin_bench.specs.declared.got.Got.TheVariants as got
use Rattle.lin_bench.specs.declared.got.Pending.{Pending}
use Rattle.lin_bench.specs.declared.rules.Noted.{Noted}
use Rattle.lin_log.specs.declared.pattern.Pattern.{Pattern}
use Rattle.lin_bench.specs.declared.taken.EventKind.{EventKind}
use Rattle.lin_bench.specs.declared.taken.EventKind.TheVariants.{Messages, Fates, Ends, Begins}

-- ---- events that expectations speak of: messages from one host to another, what became of a
-- host's messages, how slots were seen, and which slots began
abbrev pub kind_of : Event → Option EventKind
kind_of (event.Message from to bytes) = Some (Messages from to)
kind_of (event.Sent host number) = Some (Fates host)
kind_of (event.Lost host number cause) = Some (Fates host)
kind_of (event.Seen how) = Some Ends
kind_of (event.Slot table entry header) = Some Begins
kind_of event = None

abbrev pub same_kind : EventKind → EventKind → Bool
same_kind (Messages from to) (Messages f t) = from == f && to == t
same_kind (Fates host) (Fates h) = host == h
same_kind Ends Ends = true
same_kind Begins Begins = true
same_kind kind other = false

abbrev pub is_of_kind : EventKind → Event → Bool
is_of_kind kind event = option_map_or (same_kind kind) (kind_of event) false

-- the events of a history, the oldest first
abbrev pub all_events : List LogEntry → List Event
all_events [] = []
all_events (e ∷ past) = all_events past ++ events e

-- the last event of a kind
abbrev pub last_event : List LogEntry → EventKind → Option Event
last_event past kind = find (is_of_kind kind) (reverse (all_events past))

-- ---- events that expectations take, each once
-- the oldest event of a kind that no expectation has taken
abbrev pub next_event : List LogEntry → List EventKind → EventKind → Option Event
next_event past taken kind =
    slice_get (filter (is_of_kind kind) (all_events past)) (count_by (same_kind kind) taken)

-- how many events of a kind no expectation has taken
abbrev pub left_count : List LogEntry → List EventKind → EventKind → ℕ
left_count past taken kind =
    count_by (is_of_kind kind) (all_events past) - count_by (same_kind kind) taken

abbrev pub with_taken : Option Event → EventKind → List EventKind → List EventKind
with_taken None kind taken = taken
with_taken (Some e) kind taken = taken ++ kind ∷ []

-- the time of the last step with such an event, and 0 where there was none
abbrev pub last_time : Parts → (Event → Bool) → List LogEntry → ℕ
last_time c is [] = 0
last_time c is (e ∷ past) =
    if list_any is (events e) then time c (e ∷ past) else last_time c is past

-- how long each answer, an event of a kind, came after the last earlier event of these in a step
-- before its own, in microseconds, the oldest first
abbrev pub times_taken : Parts → (Event → Bool) → EventKind → List LogEntry → List ℕ
times_taken c is answer [] = []
times_taken c is answer (e ∷ past) =
    times_taken c is answer past
    ++ map (λ event. time c (e ∷ past) - last_time c is past) (filter (is_of_kind answer) (events e))

-- the earlier messages from which the time of a message counts
abbrev pub is_earlier : Since → ℕ → ℕ → Event → Bool
is_earlier Request from to event = is_of_kind (Messages to from) event
is_earlier Last from to event = is_of_kind (Messages to from) event || is_of_kind (Messages from to) event

-- how long the next message took from the last of these
abbrev pub time_taken : Parts → List LogEntry → List EventKind → Since → ℕ → ℕ → ℕ
time_taken c past taken since from to =
    slice_index (times_taken c (is_earlier since from to) (Messages from to) past)
    (count_by (same_kind (Messages from to)) taken)

-- all events so far are taken
abbrev pub all_taken : List LogEntry → List EventKind
all_taken past = filter_map kind_of (all_events past)

-- what expectations have taken after one more, met or not
abbrev pub taking : List LogEntry → List EventKind → Option EventKind → List EventKind
taking past taken None = taken
taking past taken (Some kind) = with_taken (next_event past taken kind) kind taken

-- the first of events, of which these stand before them, that passes a test of those before it and itself
abbrev pub first_so : (List Event → Event → Bool) → List Event → List Event → Option Event
first_so is before [] = None
first_so is before (e ∷ es) = if is before e then Some e else first_so is (before ++ e ∷ []) es

-- ---- messages that aren't taken
abbrev pub message_kind : Event → Option EventKind
message_kind (event.Message from to bytes) = Some (Messages from to)
message_kind event = None

-- whether an event, of which these stand before it, is a message that isn't taken: as many messages
-- between its hosts as were taken stand before it
abbrev pub is_message_left : List EventKind → List Event → Event → Bool
is_message_left taken before e =
    option_map_or
    (λ kind. nat_le (count_by (same_kind kind) taken) (count_by (is_of_kind kind) before))
    (message_kind e) false

-- the oldest message of all that no expectation has taken
abbrev pub first_message : List LogEntry → List EventKind → Option Event
first_message past taken = first_so (is_message_left taken) [] (all_events past)

-- the kind of event that an expectation takes, if it takes one
abbrev pub kind_taken : List LogEntry → List EventKind → Expected → Option EventKind
kind_taken past taken (expected.Message from to pattern) = Some (Messages from to)
kind_taken past taken (expected.MessageWithin from to pattern most since) = Some (Messages from to)
kind_taken past taken (expected.NextMessage from to pattern) =
    option_and_then message_kind (first_message past taken)
kind_taken past taken (expected.Sent host) = Some (Fates host)
kind_taken past taken (expected.Lost host cause) = Some (Fates host)
kind_taken past taken what = None

-- ---- losses that aren't taken
abbrev pub host_lost : Event → Option ℕ
host_lost (event.Lost host number cause) = Some host
host_lost event = None

-- whether it is this host, where there is one
abbrev pub is_host : Option ℕ → ℕ → Bool
is_host which host = option_map_or (λ h. h == host) which true

-- whether an event, of which these stand before it, is a loss (of a message of this host), and isn't
-- taken: as many fates of its host as were taken stand before it
abbrev pub is_loss_left : Option ℕ → List EventKind → List Event → Event → Bool
is_loss_left which taken before e =
    option_map_or
    (λ host. is_host which host
    && nat_le (count_by (same_kind (Fates host)) taken) (count_by (is_of_kind (Fates host)) before))
    (host_lost e) false

-- the first such, of the events after these
abbrev pub loss_after : Option ℕ → List EventKind → List Event → List Event → Option Event
loss_after which taken before es = first_so (is_loss_left which taken) before es

abbrev pub first_loss : List LogEntry → List EventKind → Option ℕ → Option Event
first_loss past taken which = loss_after which taken [] (all_events past)

-- ---- what the last slot that ended carried
abbrev pub last_slot : List LogEntry → Option Slot
last_slot past = option_map_or open_slot (before_last_finish past) None

abbrev pub carried_for : Parts → Entry → Slot → Option Carried
carried_for c MasterReq s = Some RequestFrame
carried_for c SlaveResp s = Some Response
carried_for c (Fixed request) s = Some RequestFrame
carried_for c entry s = option_map Signals (carried_by c entry s)

abbrev pub carried_by_slot : Parts → Slot → Option Carried
carried_by_slot c s = carried_for c (line_of c s.table s.entry).entry s

abbrev pub last_carried : Parts → List LogEntry → Option Carried
last_carried c past = option_map_or (carried_by_slot c) (last_slot past) None

-- the running schedule table: that of the open slot, where none is open that of the next one
abbrev pub running_table : Parts → ℕ → List LogEntry → ℕ
running_table c opening past =
    option_map_or (λ (s : Slot). s.table) (open_slot past) (next_due c opening past).0

-- the data bytes of a response: all but its checksum
abbrev pub data_of : List ℕ → List ℕ
data_of answer = take (length answer - 1) answer

abbrev pub fits_data : Option Pattern → List ℕ → Bool
fits_data pattern row = option_map_or (λ p. fits p row) pattern true

-- ---- what is found of conditions: whether they hold, and what is so
abbrev pub finding : Bool → Got → Finding
finding holds what = record { holds = Some holds; got = what }

-- there is nothing yet of which it could be said
abbrev pub unknown : Got → Finding
unknown what = record { holds = None; got = what }

-- what a node sees of a signal, none where there is no such node or signal
abbrev pub value_seen : Parts → List LogEntry → ℕ → ℕ → Option Value
value_seen c past node signal =
    if nat_lt node (nodes c) && nat_lt signal (length c.signals)
    then Some (value_at c past node signal)
    else None

abbrev pub value_finding : (Value → Bool) → Option Value → Finding
value_finding is None = unknown got.NoNodeOrSignal
value_finding is (Some value) = finding (is value) (got.Value value)

-- a scalar from one number to another
abbrev pub is_within : ℕ → ℕ → Value → Bool
is_within low high (Scalar n) = nat_le low n && nat_le n high
is_within low high (Bytes b) = false

abbrev pub waiting_finding : Parts → List LogEntry → ℕ → ℕ → Finding
waiting_finding c past host count =
    if nat_lt host (nodes c)
    then finding (length (waiting c past host) == count) (got.Waiting (length (waiting c past host)))
    else unknown got.NoNode

-- so many messages, from one number to another, aren't taken
abbrev pub messages_finding : ℕ → ℕ → ℕ → Finding
messages_finding low high count =
    finding (nat_le low count && nat_le count high) (got.Messages count)

abbrev pub seen_finding : Look → Option Event → Finding
seen_finding how (Some (event.Seen s)) =
    finding (look_number (look_of s) == look_number how) (got.Seen (look_of s))
seen_finding how other = unknown got.NoSlot

-- how the last slot that ended was seen, and what it carried
abbrev pub good_finding : Carried → Option Pattern → List ℕ → Option Carried → Finding
good_finding frame pattern row None = finding false (got.Seen look.Good)
good_finding frame pattern row (Some f) =
    finding (same_frame f frame && fits_data pattern row) (got.Frame f row)

abbrev pub carried_finding : Carried → Option Pattern → Option Carried → Seen → Finding
carried_finding frame pattern last (Good answer) = good_finding frame pattern (data_of answer) last
carried_finding frame pattern last how = finding false (got.Seen (look_of how))

abbrev pub frame_finding : Carried → Option Pattern → Option Carried → Option Event → Finding
frame_finding frame pattern last (Some (event.Seen how)) = carried_finding frame pattern last how
frame_finding frame pattern last other = unknown got.NoSlot

abbrev pub slot_finding : ℕ → ℕ → Option Event → Finding
slot_finding table entry (Some (event.Slot t e header)) =
    finding (t == table && e == entry) (got.Slot t e)
slot_finding table entry other = unknown got.NoSlot

-- a value isn't that at the beginning of the line
abbrev pub changed_finding : Option Value → Option Value → Finding
changed_finding None seen = unknown got.NoStep
changed_finding (Some first) seen = value_finding (λ v. not (same_value v first)) seen

unfoldable pub found : Parts → List LogEntry → List EventKind → Condition → Finding
found c past taken (condition.Signal node signal value) =
    value_finding (λ v. same_value v value) (value_seen c past node signal)
found c past taken (condition.SignalWithin node signal low high) =
    value_finding (is_within low high) (value_seen c past node signal)
found c past taken (condition.SignalMeans node signal text values) =
    value_finding (is_among_values values) (value_seen c past node signal)
found c past taken (condition.Waiting host count) = waiting_finding c past host count
found c past taken (condition.Messages from to low high) =
    messages_finding low high (left_count past taken (Messages from to))
found c past taken (condition.Seen how) = seen_finding how (last_event past Ends)
found c past taken (condition.Frame frame pattern) =
    frame_finding frame pattern (last_carried c past) (last_event past Ends)
found c past taken (condition.Slot table entry) = slot_finding table entry (last_event past Begins)
found c past taken (condition.Changed node signal first) =
    changed_finding first (value_seen c past node signal)

-- ---- verdicts: none where the expectation is met, otherwise what is so
abbrev pub got_unless : Bool → Got → Option Got
got_unless met what = if met then None else Some what

-- a condition is to hold, or not to hold
abbrev pub is_met : Bool → Option Bool → Bool
is_met wanted None = false
is_met wanted (Some holds) = if wanted then holds else not holds

abbrev pub judged_so : Bool → Finding → Option Got
judged_so wanted f = got_unless (is_met wanted f.holds) f.got

abbrev pub bytes_verdict : Pattern → List ℕ → Option Got
bytes_verdict pattern b = got_unless (fits pattern b) (got.Message b)

abbrev pub message_verdict : Pattern → Option Event → Option Got
message_verdict pattern (Some (event.Message from to b)) = bytes_verdict pattern b
message_verdict pattern other = Some got.NoEvent

-- a message that is between other hosts isn't right, whatever its bytes are
abbrev pub next_message_verdict : ℕ → ℕ → Pattern → Option Event → Option Got
next_message_verdict from to pattern (Some (event.Message f t b)) =
    if f == from && t == to then bytes_verdict pattern b else Some (got.MessageOf f t b)
next_message_verdict from to pattern other = Some got.NoEvent

-- a message that is right may be late
abbrev pub within_verdict : ℕ → ℕ → Option Got → Option Got
within_verdict most took None = got_unless (nat_le took (1000 * most)) (got.Took took)
within_verdict most took (Some what) = Some what

abbrev pub no_message_verdict : Option Event → Option Got
no_message_verdict (Some (event.Message from to b)) = Some (got.Message b)
no_message_verdict other = None

abbrev pub no_lost_verdict : Option Event → Option Got
no_lost_verdict (Some (event.Lost host number cause)) = Some (got.LostOf host number cause)
no_lost_verdict other = None

abbrev pub sent_verdict : Option Event → Option Got
sent_verdict (Some (event.Sent host number)) = None
sent_verdict (Some (event.Lost host number cause)) = Some (got.Lost number cause)
sent_verdict other = Some got.NoEvent

abbrev pub lost_verdict : Cause → Option Event → Option Got
lost_verdict cause (Some (event.Sent host number)) = Some (got.Sent number)
lost_verdict cause (Some (event.Lost host number why)) =
    got_unless (cause_number why == cause_number cause) (got.Lost number why)
lost_verdict cause other = Some got.NoEvent

-- ---- the cycle of a frame
abbrev pub is_good : Event → Bool
is_good (event.Seen (Good answer)) = true
is_good event = false

-- whether an entry ends a slot that was seen good with a frame
abbrev pub carries : Parts → Carried → LogEntry → List LogEntry → Bool
carries c frame e past =
    list_any is_good (events e)
    && option_map_or
    (λ s. option_map_or (λ f. same_frame f frame) (carried_by_slot c s) false)
    (finished_slot e past) false

-- the delay of the slot that an entry ends
abbrev pub ended_delay : Parts → LogEntry → List LogEntry → ℕ
ended_delay c e past =
    option_map_or (λ (s : Slot). (line_of c s.table s.entry).delay_us) (finished_slot e past) 0

-- a slot whose end no `forget` has consumed: no expectation consumes one
abbrev pub is_after_forget : List EventKind → List LogEntry → Bool
is_after_forget taken past =
    nat_le (count_by (same_kind Ends) taken) (count_by (is_of_kind Ends) (all_events past))

-- when these slots began, the oldest first: the time of a history is that of the slots that ended in it
abbrev pub begins_with : Parts → Carried → List EventKind → List LogEntry → List ℕ
begins_with c frame taken [] = []
begins_with c frame taken (e ∷ past) =
    begins_with c frame taken past
    ++ (if is_after_forget taken past && carries c frame e past then time c past ∷ [] else [])

-- how far apart they began
abbrev pub distances : List ℕ → List ℕ
distances (a ∷ b ∷ ts) = (b - a) ∷ distances (b ∷ ts)
distances ts = []

abbrev pub is_near : ℕ → ℕ → ℕ → Bool
is_near t tolerance distance = nat_le (t - tolerance) distance && nat_le distance (t + tolerance)

abbrev pub cycle_verdict : ℕ → ℕ → List ℕ → Option Got
cycle_verdict t tolerance [] = Some got.NoEvent
cycle_verdict t tolerance (d ∷ ds) =
    option_map got.Took (find (λ x. not (is_near t tolerance x)) (d ∷ ds))

abbrev pub tolerance : Option SaidTime → ℕ
tolerance within = option_map_or (λ (t : SaidTime). t.us) within 0

abbrev pub table_verdict : ℕ → ℕ → Option Got
table_verdict table running = got_unless (running == table) (got.Table running)

abbrev pub newest_reply : List LogEntry → Option Reply
newest_reply [] = None
newest_reply (e ∷ past) = Some e.reply

abbrev pub done_verdict : Option Reply → Option Got
done_verdict None = Some got.NoStep
done_verdict (Some (Done es)) = None
done_verdict (Some (Refused r)) = Some (got.Refused r)

abbrev pub refused_verdict : Refusal → Option Reply → Option Got
refused_verdict why None = Some got.NoStep
refused_verdict why (Some (Done es)) = Some got.Done
refused_verdict why (Some (Refused r)) =
    got_unless (refusal_number r == refusal_number why) (got.Refused r)

-- no host has a message that waits, and no node an answer that is noted
abbrev pub idle_verdict : List Pending → Option Got
idle_verdict all = got_unless (length all == 0) (got.StillPending all)

-- given also the table that the schedule opened with, and the answers that are noted. (That there is a rule is
-- judged by the line that ends it, and told only where there is none)
unfoldable pub verdict : Parts → ℕ → List LogEntry → List Noted → List EventKind → Expected
    → Option Got
verdict c opening past noted taken (expected.Is what) = judged_so true (found c past taken what)
verdict c opening past noted taken (expected.Not what) = judged_so false (found c past taken what)
verdict c opening past noted taken (expected.Message from to pattern) =
    message_verdict pattern (next_event past taken (Messages from to))
verdict c opening past noted taken (expected.MessageWithin from to pattern most since) =
    within_verdict most (time_taken c past taken since from to)
    (message_verdict pattern (next_event past taken (Messages from to)))
verdict c opening past noted taken (expected.NextMessage from to pattern) =
    next_message_verdict from to pattern (first_message past taken)
verdict c opening past noted taken (expected.NoMessage from to) =
    no_message_verdict (next_event past taken (Messages from to))
verdict c opening past noted taken (expected.NoLost host) =
    no_lost_verdict (first_loss past taken host)
verdict c opening past noted taken (expected.Sent host) = sent_verdict (next_event past taken (Fates host))
verdict c opening past noted taken (expected.Lost host cause) =
    lost_verdict cause (next_event past taken (Fates host))
verdict c opening past noted taken (expected.Cycle frame t within) =
    cycle_verdict t.us (tolerance within) (distances (begins_with c frame taken past))
verdict c opening past noted taken (expected.Table table) = table_verdict table (running_table c opening past)
verdict c opening past noted taken expected.Done = done_verdict (newest_reply past)
verdict c opening past noted taken (expected.Refused why) = refused_verdict why (newest_reply past)
verdict c opening past noted taken expected.Asleep = got_unless (asleep past) got.Awake
verdict c opening past noted taken expected.Awake = if asleep past then Some got.Asleep else None
verdict c opening past noted taken expected.Idle = idle_verdict (pending c past noted)
verdict c opening past noted taken (expected.HasRule e) = Some got.NoRule
