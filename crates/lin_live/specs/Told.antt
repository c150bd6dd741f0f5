-- How an interactive session answers a line: with the text of the line's entries and a last line that
-- begins with `#`, or with the objects of its entries and a last object.
use Rattle.std.specs.Prelude.{ℕ, ◌-◌, ◌^◌, ◌<◌, Bool, true, false, ◌||◌, if◌then◌else◌, List, []}
use Rattle.std.specs.Prelude.{◌∷◌, ◌++◌, length, Option, Some, None, option_map}
use Rattle.std.specs.Prelude.{Result, Ok, Err, codes}
use Rattle.std.specs.Fmt.{decimal}
use Rattle.lin_parts.specs.declared.parts.Parts.{Parts}
use Rattle.lin_core.specs.Tables.{refusal_number, refusal_word}
use Rattle.lin_core.specs.declared.log.LogEntry.{LogEntry}
use Rattle.lin_core.specs.declared.reply.Refusal.{Refusal}
use Rattle.lin_log.specs.Language.{Language, named_language, plain}
use Rattle.lin_log.specs.Words.{Word, text}
use Rattle.lin_log.specs.Words.Word.{Fields, Fixed, Mark, Number, Said}
use Rattle.lin_export.specs.Csv.{after_comma}
use Rattle.lin_export.specs.Json.{member, object_line, printable_text, quoted_text}
use Rattle.lin_export.specs.Jsonl.{objects_of}
use Rattle.lin_export.specs.Named.{named_entries}
use Rattle.lin_values.specs.Coded.{CodedData}
use Rattle.lin_bench.specs.Meanings.{told_meaning}
use Rattle.lin_bench.specs.Written.{without_mark}
use Rattle.lin_bench.specs.Made.{BenchState, made}
use Rattle.lin_bench.specs.Slots.{slot_limit}
use Rattle.lin_bench.specs.Strict.{entries_since, first_refusal}
use Rattle.lin_bench.specs.LineWords.{spaced_words, words_text}
use Rattle.lin_bench.specs.Resolved.{with_parameter}
use Rattle.lin_bench.specs.Texts.{expected_text, got_text, reason_words}
use Rattle.lin_bench.specs.declared.rules.NodeLimits.{NodeLimits}
use Rattle.lin_bench.specs.declared.got.Verdict.{Verdict}
use Rattle.lin_bench.specs.declared.got.Verdict.TheVariants.{Unmet, SlotLimit}
use Rattle.lin_bench.specs.declared.line.ScriptLine.{ScriptLine}
use Rattle.lin_bench.specs.declared.parameters.Parameter.{Parameter}
use Rattle.lin_live.specs.Heard.{Heard, line_heard}
use Rattle.lin_live.specs.Marking.{Marked, bench_at, with_mark}
use Rattle.lin_live.specs.Transcript.{short}
use Rattle.lin_live.specs.Values.{SaidValue, value_said, said_members, said_words}
use Rattle.lin_live.specs.declared.answer_format.AnswerFormat.{AnswerFormat}
use Rattle.lin_live.specs.declared.answer_format.AnswerFormat.TheVariants.{Log, Named, Jsonl}
use Rattle.lin_live.specs.Heard.Heard.{Ask, GoBack, Make, SetMark, SetParameter}
use Rattle.lin_live.specs.declared.question.Question.{Question}
use Rattle.lin_live.specs.declared.reason.Reason.{Reason}
use Rattle.lin_live.specs.declared.reason.Reason.TheVariants.{Script, AskForm, UnknownQuestion}
use Rattle.lin_live.specs.declared.reason.Reason.TheVariants.{BackForm, MarkForm, NoMark, NoName, StartMark, TooLong}

-- ---- the last lines of answers
-- why a line is bad
abbrev pub question_reason_words : Reason → List Word
question_reason_words (Script why) = reason_words why
question_reason_words AskForm = Fixed (codes "missing question after ?") ∷ []
question_reason_words (UnknownQuestion fields) =
    Fixed (codes "unknown question") ∷ Fields fields ∷ []
question_reason_words MarkForm = Fixed (codes "usage: mark NAME") ∷ []
question_reason_words BackForm = Fixed (codes "usage: back NAME") ∷ []
question_reason_words (NoName field) =
    Fixed (codes "expected a name, not") ∷ Said field ∷ []
question_reason_words StartMark = Fixed (codes "start is the mark of the beginning") ∷ []
question_reason_words (NoMark name) = Fixed (codes "unknown mark") ∷ Said name ∷ []
question_reason_words TooLong =
    Fixed (codes "the line has more than 16,777,216 bytes") ∷ []

abbrev pub question_reason_text : Reason → List ℕ
question_reason_text why = words_text plain (question_reason_words why)

-- how an answer ends: the line was bad, a question is answered, the line met the limit of slots, an
-- expectation failed, a step was refused, or none of these
pub data Ending : Type 0 where
  Bad : (why : Reason) → Ending
  Is : (answer : SaidValue) → Ending
  Limit : Ending
  Failed : (what got : List ℕ) → Ending
  Refused : (why : Refusal) → Ending
  Fine : Ending

abbrev pub steps_ending : Option Refusal → Ending
steps_ending None = Fine
steps_ending (Some why) = Refused why

-- the limit of slots is reported before a failed expectation, and this before a refused step
abbrev pub verdict_ending : Parts → Verdict → List LogEntry → Ending
verdict_ending c SlotLimit es = Limit
verdict_ending c (Unmet what got) es = Failed (expected_text c what) (got_text c got)
verdict_ending c verdict es = steps_ending (first_refusal es)

-- as a line: `#`, and words
abbrev pub hash_line : Language → List Word → List ℕ
hash_line l words = 35 ∷ (spaced_words l words ++ 10 ∷ [])

abbrev pub bad_line_words : Reason → List Word
bad_line_words why = Fixed (codes "bad line:") ∷ Said (question_reason_text why) ∷ []

abbrev pub ending_words : Parts → Option CodedData → Ending → List Word
ending_words c k (Bad why) = bad_line_words why
ending_words c k (Is answer) = Fixed (codes "is") ∷ said_words c k answer
ending_words c k Limit = Fixed (codes "slot limit") ∷ []
ending_words c k (Failed what got) =
    Fixed (codes "expected") ∷ Said what ∷ Mark (codes ":") ∷ Said got ∷ []
ending_words c k (Refused why) =
    Fixed (codes "refused") ∷ Number (refusal_number why) ∷ Fixed (refusal_word why) ∷ []
ending_words c k Fine = Fixed (codes "ok") ∷ []

abbrev pub hash_ending : Parts → Option CodedData → Ending → List ℕ
hash_ending c k e = hash_line (named_language c) (ending_words c k e)

-- as an object: what it begins with, and all of it
abbrev pub answer_beginning : List ℕ → List ℕ
answer_beginning end =
    123 ∷ (member (codes "type") (quoted_text (codes "answer"))
    ++ after_comma (member (codes "end") (quoted_text end)))

abbrev pub answer_object : List ℕ → List (List ℕ) → List ℕ
answer_object end members =
    object_line (codes "answer") (member (codes "end") (quoted_text end) ∷ members)

abbrev pub object_ending : Parts → Option CodedData → Ending → List ℕ
object_ending c k (Bad why) =
    answer_object (codes "bad line") (member (codes "reason") (printable_text (question_reason_text why)) ∷ [])
object_ending c k (Is answer) = answer_object (codes "is") (said_members c k answer)
object_ending c k Limit = answer_object (codes "slot limit") []
object_ending c k (Failed what got) =
    answer_object (codes "expected")
    (member (codes "what") (printable_text what) ∷ member (codes "got") (printable_text got) ∷ [])
object_ending c k (Refused why) =
    answer_object (codes "refused")
    (member (codes "number") (decimal (refusal_number why))
    ∷ member (codes "name") (quoted_text (refusal_word why)) ∷ [])
object_ending c k Fine = answer_object (codes "ok") []

-- whether answers in a format are texts and not objects
abbrev pub is_text : AnswerFormat → Bool
is_text Jsonl = false
is_text f = true

-- the last line of an answer
abbrev pub last_line : AnswerFormat → Parts → Option CodedData → Ending → List ℕ
last_line Jsonl c k e = object_ending c k e
last_line f c k e = hash_ending c k e

-- ---- what is kept: how entries are told, what signals mean where that is known, the limits of transfers in
-- the LDF, whether values are told as that too, the parameters that lines have set, a bench whose next line may
-- make 1,000,000 slots, the marks, whether there was a line, whether one was bad or met that limit, and whether an expectation wasn't met
pub record HandData : Type 0 where
  pub format : AnswerFormat
  pub cluster : Parts
  pub opening : ℕ
  pub capacity : ℕ
  pub coded : Option CodedData
  pub limits : List NodeLimits
  pub is_physical : Bool
  pub sets : List Parameter
  pub bench : BenchState
  pub marks : List Marked
  pub begun : Bool
  pub was_bad : Bool
  pub was_unmet : Bool

abbrev pub is_limit : Verdict → Bool
is_limit SlotLimit = true
is_limit verdict = false

abbrev pub is_unmet_verdict : Verdict → Bool
is_unmet_verdict (Unmet what got) = true
is_unmet_verdict verdict = false

-- an answer: the entries that the line made, and how it ends
pub record Answer : Type 0 where
  pub entries : List LogEntry
  pub ending : Ending

-- no step was made
abbrev pub answer_without_step : Ending → Answer
answer_without_step ending = record { entries = []; ending = ending }

-- what signals mean, where values are told as that
abbrev pub shown_coding : HandData → Option CodedData
shown_coding h = if h.is_physical then h.coded else None

-- the answer to a question to a session
abbrev pub asked_value : HandData → Question → SaidValue
asked_value h asked = value_said h.cluster h.opening h.bench.past h.bench.rules asked

-- the last line of an answer of a session
abbrev pub ending_text : HandData → Ending → List ℕ
ending_text h ending = last_line h.format h.cluster (shown_coding h) ending

-- what a bad line makes of a session, and the answer to it
abbrev pub bad_reply : HandData → Reason → HandData × List ℕ
bad_reply h why = (record h { was_bad = true }, ending_text h (Bad why))

-- where what is expected in words isn't so, what the value means
abbrev pub verdict_with_meaning : Option CodedData → Verdict → Verdict
verdict_with_meaning None v = v
verdict_with_meaning (Some k) v = told_meaning k v

-- a line was made
abbrev pub after_line : HandData → BenchState × Verdict → HandData × Answer
after_line h m =
    let es = entries_since h.bench.past m.0.past
    in (
      record h {
        bench = record m.0 { left = slot_limit };
        was_bad = h.was_bad || is_limit m.1;
        was_unmet = h.was_unmet || is_unmet_verdict m.1;
      },
      record { entries = es; ending = verdict_ending h.cluster (verdict_with_meaning h.coded m.1) es },
    )

-- a mark is gone back to, with the bench at it and the marks that were set up to it, if there is one
abbrev pub gone_back : HandData → List ℕ → Option (BenchState × List Marked) → HandData × Answer
gone_back h name None = (record h { was_bad = true }, answer_without_step (Bad (NoMark name)))
gone_back h name (Some at) = (record h { bench = at.0; marks = at.1 }, answer_without_step Fine)

-- what something that was heard makes of what is kept, and the answer
abbrev pub heard_answer : HandData → Result (Option Heard) Reason → HandData × Answer
heard_answer h (Err why) =
    (record h { was_bad = true }, answer_without_step (Bad why))
heard_answer h (Ok None) = (h, answer_without_step Fine)
heard_answer h (Ok (Some (Ask asked))) =
    (h, answer_without_step (Is (asked_value h asked)))
heard_answer h (Ok (Some (SetMark name))) =
    (record h { marks = with_mark h.marks name h.bench }, answer_without_step Fine)
heard_answer h (Ok (Some (GoBack name))) = gone_back h name (bench_at h.marks name)
heard_answer h (Ok (Some (SetParameter p))) =
    (record h { sets = with_parameter h.sets p.name p.text }, answer_without_step Fine)
heard_answer h (Ok (Some (Make line))) = after_line h (made h.cluster h.opening h.capacity h.bench line)

-- what a line says, and none that is too long
abbrev pub heard_as : Parts → Option CodedData → List NodeLimits → List Parameter → Option (List ℕ) → Result (Option Heard) Reason
heard_as c k limits sets None = Err TooLong
heard_as c k limits sets (Some line) = line_heard c k limits sets line

-- the first line may begin with a byte order mark, which belongs to no line
abbrev pub without_byte_order_mark : HandData → Option (List ℕ) → Option (List ℕ)
without_byte_order_mark h line = if h.begun then line else option_map without_mark line

-- what a line says to a session
abbrev pub heard_by : HandData → Option (List ℕ) → Result (Option Heard) Reason
heard_by h line = heard_as h.cluster h.coded h.limits h.sets (without_byte_order_mark h line)

abbrev pub line_answer : HandData → Option (List ℕ) → HandData × Answer
line_answer h line = heard_answer (record h { begun = true }) (heard_by h line)

-- this is so of what each of these lines says to the session that answers it
abbrev pub AllHeard : (Result (Option Heard) Reason → Type 0) → HandData → List (List ℕ) → Type 0
AllHeard P h [] = Unit {0}
AllHeard P h (line ∷ more) = P (heard_by h (short line)) × AllHeard P (line_answer h (short line)).0 more

-- entries as they are told, the oldest first, on those before them: as the log's own text, as the log
-- with names, or as objects
abbrev pub entries_text : AnswerFormat → Parts → Option CodedData → List LogEntry → List LogEntry
    → List ℕ
entries_text Log c k past entries = text entries
entries_text Named c k past entries = named_entries c k past entries
entries_text Jsonl c k past entries = objects_of c k past entries

-- an answer is written as the text of its entries, and then its last line
abbrev pub answer_text : HandData → Answer → List ℕ
answer_text h a =
    entries_text h.format h.cluster (shown_coding h) h.bench.past a.entries ++ ending_text h a.ending

abbrev pub written : HandData → HandData × Answer → HandData × List ℕ
written h a = (a.0, answer_text h a.1)

abbrev pub reply : HandData → Option (List ℕ) → HandData × List ℕ
reply h line = written h (line_answer h line)

-- the reply to a line that says this
abbrev pub heard_reply : HandData → Heard → HandData × List ℕ
heard_reply h heard = written h (heard_answer h (Ok (Some heard)))

-- the log would have more entries than it takes
abbrev pub IsFull : HandData → Option (List ℕ) → Type 0
IsFull h line = 2 ^ 32 - 1 < length (reply h line).0.bench.past

abbrev pub IsFullFor : HandData → ScriptLine → Type 0
IsFullFor h line = 2 ^ 32 - 1 < length (heard_reply h (Make line)).0.bench.past
