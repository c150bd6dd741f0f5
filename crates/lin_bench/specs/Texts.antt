-- What is said of bad lines and of expectations that aren't met.
use Rattle.std.specs.Prelude.{ℕ, ◌==◌, if◌then◌else◌, Bool, true, false, List, [], ◌∷◌, ◌++◌, flat_map}
use Rattle.std.specs.Prelude.{codes, Option, Some, None}
use Rattle.std.specs.Option.{option_map_or}
use Rattle.lin_parts.specs.declared.parts.Parts.{Parts}
use Rattle.lin_core.specs.Tables.{cause_word, look_word, refusal_word}
use Rattle.lin_core.specs.declared.port.PortId.{PortId}
use Rattle.lin_core.specs.declared.port.PortId.TheVariants.{Bus}
use Rattle.lin_core.specs.declared.step.Step.{Step}
use Rattle.lin_log.specs.Language.{named_language, plain}
use Rattle.lin_log.specs.Words.{Word, spaced_word, step_words, word_text}
use Rattle.lin_log.specs.Words.Word.{Port, Node, Signal, Table, Frame, Number, Range}
use Rattle.lin_log.specs.Words.Word.{Hex, Matching, Raw, Fixed, Said, Fields}
use Rattle.lin_log.specs.Words.Word.{Listed, Mark}
use Rattle.lin_log.specs.declared.pattern.Pattern.{Pattern}
use Rattle.lin_log.specs.declared.reason.Reason.{Reason as StepReason}
use Rattle.lin_log.specs.declared.reason.Reason.TheVariants as step
use Rattle.lin_bench.specs.LineWords.{words_text}
use Rattle.lin_bench.specs.Files.{place_number_text}
use Rattle.lin_bench.specs.declared.files.ScriptFile.{ScriptFile}
use Rattle.lin_bench.specs.declared.place.LinePlace.{LinePlace}
use Rattle.lin_bench.specs.declared.expected.Since.{Since}
use Rattle.lin_bench.specs.declared.expected.Since.TheVariants.{Request, Last}
use Rattle.lin_bench.specs.declared.reason.Hint.{Hint}
use Rattle.lin_bench.specs.declared.reason.Hint.TheVariants as hint
use Rattle.lin_bench.specs.declared.reason.Reason.{Reason}
use Rattle.lin_bench.specs.declared.reason.Reason.TheVariants as reason
use Rattle.lin_bench.specs.declared.expected.Condition.{Condition}
use Rattle.lin_bench.specs.declared.expected.Condition.TheVariants as condition
use Rattle.lin_bench.specs.declared.expected.Expected.{Expected}
use Rattle.lin_bench.specs.declared.expected.Expected.TheVariants as expected
use Rattle.lin_bench.specs.declared.got.Got.{Got}
use Rattle.lin_bench.specs.declared.got.Got.TheVariants as got
use Rattle.lin_bench.specs.declared.got.Pending.{Pending}
use Rattle.lin_bench.specs.declared.got.Pending.TheVariants.{MessagesWait, AnswersNoted}
use Rattle.lin_bench.specs.declared.got.Judged.{Judged}
use Rattle.lin_bench.specs.declared.got.Judged.TheVariants as judged
use Rattle.lin_bench.specs.declared.got.Judgement.{Judgement}
use Rattle.lin_bench.specs.declared.rules.Form.{Form}
use Rattle.lin_bench.specs.declared.rules.RuleEnd.{RuleEnd}
use Rattle.lin_bench.specs.declared.rules.RuleEnd.TheVariants as end
use Rattle.lin_bench.specs.Played.{is_unmet}

abbrev pub fields_word : ℕ → List ℕ
fields_word count = if count == 1 then codes "argument" else codes "arguments"

abbrev pub bytes_word : ℕ → List ℕ
bytes_word count = if count == 1 then codes "byte" else codes "bytes"

abbrev pub entries_word : ℕ → List ℕ
entries_word count = if count == 1 then codes "entry" else codes "entries"

-- why a line of a step is bad
abbrev pub step_reason_words : StepReason → List Word
step_reason_words step.NoPort = Fixed (codes "missing port") ∷ []
step_reason_words step.NoStep = Fixed (codes "missing step after the port") ∷ []
step_reason_words (step.UnknownStep word) = Fixed (codes "unknown step") ∷ Said word ∷ []
step_reason_words (step.NoNode name) = Fixed (codes "unknown node") ∷ Said name ∷ []
step_reason_words (step.NoSignal name) = Fixed (codes "unknown signal") ∷ Said name ∷ []
step_reason_words (step.NoTable name) = Fixed (codes "unknown table") ∷ Said name ∷ []
step_reason_words (step.NoNumber field most) =
    Fixed (codes "expected a number from 0 to") ∷ Number most ∷ Mark (codes ",")
    ∷ Fixed (codes "not") ∷ Said field ∷ []
step_reason_words step.NoBytes = Fixed (codes "expected hexadecimal bytes") ∷ []
step_reason_words (step.NotBytes fields) =
    Fixed (codes "expected hexadecimal bytes, not") ∷ Fields fields ∷ []
step_reason_words (step.TooManyBytes field) =
    Said field ∷ Fixed (codes "has more than 8 bytes") ∷ []
step_reason_words (step.Takes word fields) =
    Said word ∷ Fixed (codes "takes") ∷ Number fields ∷ Fixed (fields_word fields) ∷ []
step_reason_words step.SendForm = Fixed (codes "usage: send NODE NODE BYTES") ∷ []
step_reason_words step.WriteForm = Fixed (codes "usage: write SIGNAL VALUE") ∷ []
step_reason_words step.TimeoutForm =
    Fixed (codes "usage: timeout NODE down or timeout NODE up") ∷ []

-- the hint about the values of a signal
abbrev pub hint_words : Hint → List Word
hint_words hint.Nothing = []
hint_words hint.NoEncoding = Fixed (codes "(no encoding)") ∷ []
hint_words (hint.Units us) = Fixed (codes "(units:") ∷ Listed us ∷ Mark (codes ")") ∷ []
hint_words (hint.Nearest ts) = Fixed (codes "(nearest:") ∷ Listed ts ∷ Mark (codes ")") ∷ []
hint_words (hint.Values ts) = Fixed (codes "(values:") ∷ Listed ts ∷ Mark (codes ")") ∷ []

-- no raw value has a text
abbrev pub no_value_words : List ℕ → List ℕ → Hint → List Word
no_value_words text signal h =
    Said signal ∷ Fixed (codes "has no value") ∷ Said text ∷ hint_words h

-- a value isn't raw, and `=` is missing
abbrev pub or_marked : Bool → List ℕ
or_marked ranged =
    if ranged then codes ", a range, or = before a text, not" else codes ", or = before a text, not"

abbrev pub unmarked_words : List (List ℕ) → Bool → Hint → List Word
unmarked_words fields ranged h =
    Fixed (codes "expected a raw value") ∷ Mark (or_marked ranged) ∷ Fields fields ∷ hint_words h

-- why a line is bad
abbrev pub reason_words : Reason → List Word
reason_words (reason.Step why) = step_reason_words why
reason_words (reason.NoRefusal name) = Fixed (codes "unknown refusal") ∷ Said name ∷ []
reason_words (reason.NoFrame name) = Fixed (codes "unknown frame") ∷ Said name ∷ []
reason_words (reason.NoData frame count) =
    Said frame ∷ Fixed (codes "has") ∷ Number count ∷ Fixed (bytes_word count) ∷ []
reason_words (reason.NoEntry table entries) =
    Said table ∷ Fixed (codes "has") ∷ Number entries ∷ Fixed (entries_word entries) ∷ []
reason_words (reason.NoRange field) =
    Fixed (codes "expected a range LOW..HIGH, not") ∷ Said field ∷ []
reason_words (reason.NoTime field) =
    Said field ∷ Fixed (codes "isn't a time up to 1000000 ms") ∷ []
reason_words reason.TooSmall = Fixed (codes "expected a number of at least 1, not 0") ∷ []
reason_words reason.SlotsForm =
    Fixed (codes "usage: slots N, slots N ms, slots N leave NODE .., slots N until FORM, slots N while FORM or slots idle") ∷ []
reason_words (reason.SlotForm word) =
    Fixed (codes "expected hurt or leave after slot, not") ∷ Said word ∷ []
reason_words reason.LeaveForm = Fixed (codes "usage: slot leave NODE ..") ∷ []
reason_words reason.SlotsLeaveForm = Fixed (codes "usage: slots N leave NODE ..") ∷ []
reason_words reason.ExpectForm = Fixed (codes "missing expectation after expect") ∷ []
reason_words (reason.UnknownExpectation fields) =
    Fixed (codes "unknown expectation") ∷ Fields fields ∷ []
reason_words reason.UntilForm = Fixed (codes "missing expectation after until") ∷ []
reason_words (reason.UnknownUntil fields) =
    Fixed (codes "until doesn't accept") ∷ Fields fields ∷ []
reason_words reason.WhileForm = Fixed (codes "missing expectation after while") ∷ []
reason_words (reason.UnknownWhile fields) =
    Fixed (codes "while doesn't accept") ∷ Fields fields ∷ []
reason_words (reason.ForScripts word) = Said word ∷ Fixed (codes "is for scripts") ∷ []
reason_words reason.SetForm = Fixed (codes "usage: set NAME TEXT") ∷ []
reason_words (reason.NoParameter name) = Fixed (codes "unknown parameter") ∷ Said name ∷ []
reason_words (reason.HashField field) = Said field ∷ Fixed (codes "would begin a comment") ∷ []
reason_words reason.IncludeForm = Fixed (codes "usage: include FILE") ∷ []
reason_words reason.IncludeDepth = Fixed (codes "include is more than 16 deep") ∷ []
reason_words (reason.Unread name) = Fixed (codes "read failed") ∷ []
reason_words (reason.LongFile name) = Fixed (codes "script too long") ∷ []
reason_words reason.LongLine = Fixed (codes "more than 65536 bytes") ∷ []
reason_words reason.RepeatForm = Fixed (codes "usage: repeat N") ∷ []
reason_words reason.EndWithoutRepeat = Fixed (codes "end without repeat") ∷ []
reason_words reason.RepeatWithoutEnd = Fixed (codes "repeat without end") ∷ []
reason_words reason.TooManyLines = Fixed (codes "more than 1000000 lines") ∷ []
reason_words reason.TestForm = Fixed (codes "usage: test NAME") ∷ []
reason_words reason.WhenForm =
    Fixed (codes "usage: when NODE PATTERN answer BYTES, when NODE PATTERN silent or when NODE PATTERN off") ∷ []
reason_words reason.OnForm = Fixed (codes "usage: on FORM do STEP, on FORM off or on off") ∷ []
reason_words (reason.UnknownOn fields) = Fixed (codes "on doesn't accept") ∷ Fields fields ∷ []
reason_words reason.OnStep = Fixed (codes "on accepts only send, write, switch and sleep") ∷ []
reason_words reason.StateForm = Fixed (codes "usage: state NODE NAME") ∷ []
reason_words reason.NodeForm = Fixed (codes "usage: node NODE off or node NODE on") ∷ []
reason_words (reason.NoName field) = Fixed (codes "expected a name, not") ∷ Said field ∷ []
reason_words (reason.NoResponder field) =
    Said field ∷ Fixed (codes "isn't a responder with a NAD") ∷ []
reason_words (reason.NotResponder field) = Said field ∷ Fixed (codes "isn't a responder") ∷ []
reason_words (reason.NoMessages from to) =
    Fixed (codes "no message goes from") ∷ Said from ∷ Fixed (codes "to") ∷ Said to ∷ []
reason_words (reason.NotItsSignal node signal) =
    Said node ∷ Fixed (codes "neither publishes nor subscribes") ∷ Said signal ∷ []
reason_words (reason.NoPattern fields) = Fields fields ∷ Fixed (codes "isn't a pattern") ∷ []
reason_words reason.LongAnswer = Fixed (codes "answer has more than 4095 bytes") ∷ []
reason_words reason.TimeoutsForm = Fixed (codes "usage: timeouts N ms, timeouts ldf, timeouts NODE N ms, timeouts NODE off or timeouts off") ∷ []
reason_words reason.EveryForm = Fixed (codes "usage: every N ms STEP, every off STEP or every off") ∷ []
reason_words reason.EveryStep = Fixed (codes "every accepts only send and write") ∷ []
reason_words reason.ServicesForm = Fixed (codes "usage: services on or services off") ∷ []
reason_words reason.NoServices = Fixed (codes "no responder answers services") ∷ []
reason_words reason.ErrorsForm =
    Fixed (codes "usage: response_errors on or response_errors off") ∷ []
reason_words reason.NoErrorSignal = Fixed (codes "no responder has a response_error signal") ∷ []
reason_words (reason.WideErrorSignal signal bits) =
    Fixed (codes "response_error signal") ∷ Said signal ∷ Fixed (codes "has") ∷ Number bits
    ∷ Fixed (codes "bits") ∷ []
reason_words (reason.NoDecimal field) = Said field ∷ Fixed (codes "isn't a number") ∷ []
reason_words reason.NoWords = Fixed (codes "missing value") ∷ []
reason_words (reason.WideSignal signal) = Said signal ∷ Fixed (codes "is a wide signal") ∷ []
reason_words (reason.NoValue text signal h) = no_value_words text signal h
reason_words (reason.EveryValue text signal) =
    Said text ∷ Fixed (codes "includes every value of") ∷ Said signal ∷ []
reason_words (reason.EveryNumber field) =
    Said field ∷ Fixed (codes "includes every number of messages") ∷ []
reason_words (reason.Unmarked fields ranged h) = unmarked_words fields ranged h
reason_words (reason.SeveralValues count text signal) =
    Number count ∷ Fixed (codes "values of") ∷ Said signal ∷ Fixed (codes "have the text")
    ∷ Said text ∷ []

abbrev pub reason_text : Reason → List ℕ
reason_text why = words_text plain (reason_words why)

-- the line of a bad line; of one that includes a file that isn't read it is the reason alone
abbrev pub bad_place_text : List ScriptFile → LinePlace → Reason → List ℕ
bad_place_text fs p (reason.Unread name) = []
bad_place_text fs p (reason.LongFile name) = []
bad_place_text fs p why = codes "script " ++ (place_number_text fs p ++ codes " bad line: ")

abbrev pub bad_line_text : List ScriptFile → LinePlace → Reason → List ℕ
bad_line_text fs p why = bad_place_text fs p why ++ (reason_text why ++ 10 ∷ [])

-- words with the names of a cluster
abbrev pub cluster_text : Parts → List Word → List ℕ
cluster_text c ws = words_text (named_language c) ws

-- the unit of a time, and from which earlier message it counts
abbrev pub since_word : Since → List ℕ
since_word Request = codes "ms"
since_word Last = codes "ms of last"

-- the line that ends rules; no port stands in it where the bus makes the step
abbrev pub repeated_words : PortId → Step → List Word
repeated_words Bus s = Fixed (codes "every off") ∷ step_words s
repeated_words by s = Fixed (codes "every off") ∷ Port by ∷ step_words s

abbrev pub when_end_words : ℕ → Option (List ℕ) → Pattern → List Word
when_end_words node None pattern =
    Fixed (codes "when") ∷ Node node ∷ Matching pattern ∷ Fixed (codes "off") ∷ []
when_end_words node (Some state) pattern =
    Fixed (codes "when") ∷ Node node ∷ Fixed (codes "in") ∷ Said state ∷ Matching pattern
    ∷ Fixed (codes "off") ∷ []

-- a number of messages, or a range of them
abbrev pub counts_word : ℕ → ℕ → Word
counts_word low high = if low == high then Number low else Range low high

-- the word of a condition that is to hold, or of one that isn't
abbrev pub word_if : Bool → List ℕ → List ℕ → Word
word_if wanted plain negated = if wanted then Fixed plain else Fixed negated

abbrev pub condition_words : Bool → Condition → List Word
condition_words wanted (condition.Signal node signal value) =
    word_if wanted (codes "signal") (codes "not signal") ∷ Node node ∷ Signal signal ∷ Raw value ∷ []
condition_words wanted (condition.SignalWithin node signal low high) =
    word_if wanted (codes "signal") (codes "not signal") ∷ Node node ∷ Signal signal ∷ Range low high ∷ []
condition_words wanted (condition.SignalMeans node signal text values) =
    word_if wanted (codes "signal") (codes "not signal") ∷ Node node ∷ Signal signal ∷ Fixed (codes "=")
    ∷ Said text ∷ []
condition_words wanted (condition.Waiting host count) =
    word_if wanted (codes "waiting") (codes "not waiting") ∷ Node host ∷ Number count ∷ []
condition_words wanted (condition.Messages from to low high) =
    word_if wanted (codes "messages") (codes "not messages") ∷ Node from ∷ Node to
    ∷ counts_word low high ∷ []
condition_words wanted (condition.Seen how) =
    word_if wanted (codes "seen") (codes "not seen") ∷ Fixed (look_word how) ∷ []
condition_words wanted (condition.Frame frame None) =
    word_if wanted (codes "frame") (codes "not frame") ∷ Frame frame ∷ []
condition_words wanted (condition.Frame frame (Some pattern)) =
    word_if wanted (codes "frame") (codes "not frame") ∷ Frame frame ∷ Matching pattern ∷ []
condition_words wanted (condition.Slot table entry) =
    word_if wanted (codes "slot") (codes "not slot") ∷ Table table ∷ Number entry ∷ []
condition_words wanted (condition.Changed node signal first) =
    word_if wanted (codes "changed") (codes "not changed") ∷ Node node ∷ Signal signal ∷ []

abbrev pub on_end_words : Form → List Word
on_end_words f =
    Fixed (codes "on") ∷ (condition_words f.wanted f.what ++ Fixed (codes "off") ∷ [])

abbrev pub end_words : RuleEnd → List Word
end_words (end.When node state pattern) = when_end_words node state pattern
end_words (end.WhensOf node) = Fixed (codes "when") ∷ Node node ∷ Fixed (codes "off") ∷ []
end_words (end.Every by s) = repeated_words by s
end_words (end.On form) = on_end_words form

-- what is expected
abbrev pub expected_words : Expected → List Word
expected_words (expected.Is what) = condition_words true what
expected_words (expected.Not what) = condition_words false what
expected_words (expected.Message from to pattern) =
    Fixed (codes "message") ∷ Node from ∷ Node to ∷ Matching pattern ∷ []
expected_words (expected.MessageWithin from to pattern most since) =
    Fixed (codes "message") ∷ Node from ∷ Node to ∷ Matching pattern
    ∷ Fixed (codes "within") ∷ Number most ∷ Fixed (since_word since) ∷ []
expected_words (expected.NextMessage from to pattern) =
    Fixed (codes "next message") ∷ Node from ∷ Node to ∷ Matching pattern ∷ []
expected_words (expected.NoMessage from to) =
    Fixed (codes "no message") ∷ Node from ∷ Node to ∷ []
expected_words (expected.NoLost None) = Fixed (codes "no lost") ∷ []
expected_words (expected.NoLost (Some host)) = Fixed (codes "no lost") ∷ Node host ∷ []
expected_words (expected.Sent host) = Fixed (codes "sent") ∷ Node host ∷ []
expected_words (expected.Lost host cause) =
    Fixed (codes "lost") ∷ Node host ∷ Fixed (cause_word cause) ∷ []
expected_words (expected.Cycle frame t None) =
    Fixed (codes "cycle") ∷ Frame frame ∷ Said t.text ∷ Fixed (codes "ms") ∷ []
expected_words (expected.Cycle frame t (Some within)) =
    Fixed (codes "cycle") ∷ Frame frame ∷ Said t.text ∷ Fixed (codes "+-") ∷ Said within.text
    ∷ Fixed (codes "ms") ∷ []
expected_words (expected.Table table) = Fixed (codes "table") ∷ Table table ∷ []
expected_words expected.Done = Fixed (codes "done") ∷ []
expected_words (expected.Refused why) = Fixed (codes "refused") ∷ Fixed (refusal_word why) ∷ []
expected_words expected.Asleep = Fixed (codes "asleep") ∷ []
expected_words expected.Awake = Fixed (codes "awake") ∷ []
expected_words expected.Idle = Fixed (codes "idle") ∷ []
expected_words (expected.HasRule e) = end_words e

abbrev pub expected_text : Parts → Expected → List ℕ
expected_text c what = cluster_text c (expected_words what)

-- how many messages of a host wait, or answers of a node are noted
abbrev pub pending_words : Pending → List Word
pending_words (MessagesWait host count) =
    Number count ∷ Fixed (codes "of") ∷ Node host ∷ Fixed (codes "waiting") ∷ []
pending_words (AnswersNoted node count) =
    Number count ∷ Fixed (codes "of") ∷ Node node ∷ Fixed (codes "noted") ∷ []

abbrev pub other_pending_words : Pending → List Word
other_pending_words p = Mark (codes ",") ∷ pending_words p

abbrev pub all_pending_words : List Pending → List Word
all_pending_words [] = []
all_pending_words (p ∷ ps) = pending_words p ++ flat_map other_pending_words ps

abbrev pub pending_text : Parts → List Pending → List ℕ
pending_text c ps = cluster_text c (all_pending_words ps)

-- what is so in its place, in few words
abbrev pub short_words : Got → List Word
short_words (got.Value value) = Raw value ∷ []
short_words (got.Meaning text) = Said text ∷ []
short_words (got.Waiting count) = Number count ∷ []
short_words (got.Message bytes) = Hex bytes ∷ []
short_words (got.MessageOf from to bytes) = Node from ∷ Node to ∷ Hex bytes ∷ []
short_words (got.Took time) = Number time ∷ Fixed (codes "us") ∷ []
short_words (got.Sent number) = Fixed (codes "message") ∷ Number number ∷ Fixed (codes "sent") ∷ []
short_words (got.Lost number cause) =
    Fixed (codes "message") ∷ Number number ∷ Fixed (codes "lost") ∷ Fixed (cause_word cause) ∷ []
short_words (got.LostOf host number cause) =
    Fixed (codes "message") ∷ Number number ∷ Fixed (codes "of") ∷ Node host
    ∷ Fixed (codes "lost") ∷ Fixed (cause_word cause) ∷ []
short_words got.NoEvent = Fixed (codes "none") ∷ []
short_words (got.Seen how) = Fixed (look_word how) ∷ []
short_words (got.Frame frame bytes) = Frame frame ∷ Hex bytes ∷ []
short_words (got.Slot table entry) = Table table ∷ Number entry ∷ []
short_words (got.Table table) = Table table ∷ []
short_words got.NoSlot = Fixed (codes "no slot") ∷ []
short_words got.Done = Fixed (codes "done") ∷ []
short_words (got.Refused why) = Fixed (codes "refused") ∷ Fixed (refusal_word why) ∷ []
short_words got.NoStep = Fixed (codes "no step") ∷ []
short_words got.Asleep = Fixed (codes "asleep") ∷ []
short_words got.Awake = Fixed (codes "awake") ∷ []
short_words (got.StillPending all) = []
short_words got.NoRule = Fixed (codes "no such rule") ∷ []
short_words (got.Messages count) = []
short_words got.NoNode = Fixed (codes "no such node") ∷ []
short_words got.NoNodeOrSignal = Fixed (codes "no such node or signal") ∷ []

-- what is so in its place
abbrev pub got_words : Got → List Word
got_words (got.StillPending all) = all_pending_words all
got_words (got.Messages count) = Number count ∷ []
got_words is = short_words is

abbrev pub got_text : Parts → Got → List ℕ
got_text c is = cluster_text c (got_words is)

-- what is expected and what is so
abbrev pub verdict_text : List ℕ → List ℕ → List ℕ
verdict_text what is = codes " expected " ++ (what ++ (codes ": " ++ (is ++ 10 ∷ [])))

-- what was judged
abbrev pub what_text : Parts → Judged → List ℕ
what_text c (judged.Met what) = expected_text c what
what_text c (judged.Unmet what got) = expected_text c what
what_text c (judged.NotDue node) = codes "leave " ++ word_text (named_language c) (Node node)
what_text c judged.NothingExpected = codes "expectations"

-- what is so in its place; none where it is so
abbrev pub found_text : Parts → Judged → Option (List ℕ)
found_text c (judged.Met what) = None
found_text c (judged.Unmet what got) = Some (got_text c got)
found_text c (judged.NotDue node) = Some (codes "not due")
found_text c judged.NothingExpected = Some (codes "none")

-- what is expected and what is so, without the line's end
abbrev pub judged_text : Parts → Judged → List ℕ
judged_text c what =
    codes " expected "
    ++ (what_text c what ++ 58 ∷ option_map_or spaced_word (found_text c what) [])

-- the line of a judgement, where it isn't met
abbrev pub unmet_text : Parts → List ScriptFile → Judgement → List ℕ
unmet_text c fs j =
    if is_unmet j.judged
    then codes "script " ++ (place_number_text fs j.place ++ (judged_text c j.judged ++ 10 ∷ []))
    else []
