-- Lines of bench scripts, answered as `live` answers them.
use Rattle.std.specs.Prelude.{◌≡◌, ℕ, ◌==◌, ◌||◌, nat_eq, Bool, if◌then◌else◌, List, [], Option, codes, drop}
use Rattle.std.specs.Prelude.{Result, Ok, Err}
use Rattle.std.specs.List.{find, slice_split, starts_with}
use Rattle.std.specs.Option.{unwrap_or}
use Rattle.std.specs.Str.Lines.{strip_carriage_return}
use Rattle.lin_live.specs.Told.{HandData, IsFull, reply}
use Rattle.lin_live.specs.Transcript.{short}
use Rattle.linsim_c.specs.Statuses.{CallResult}
use Rattle.linsim_c.specs.Writing.{Writes}
use Rattle.linsim_c.specs.declared.fault.Fault.{Fault}
use Rattle.linsim_c.specs.declared.fault.Fault.TheVariants.{NoRoom, OutOfMemory, LogFull}

-- a bench in hand, and its answer to the newest line, which is empty before the first one
pub record AnsweringBench : Type 0 where
  pub hand : HandData
  pub answer : List ℕ

-- ---- how an answer ended: by its last line, the only one that begins as a text or as an object that says it
abbrev pub line_begins : List ℕ → List ℕ → Bool
line_begins words line = starts_with nat_eq line words

abbrev pub text_mark : List ℕ
text_mark = codes "# "

abbrev pub object_mark : List ℕ
object_mark = codes "{\"type\":\"answer\",\"end\":\""

abbrev pub says_end : List ℕ → Bool
says_end line = line_begins text_mark line || line_begins object_mark line

abbrev pub end_line_in : List ℕ → Option (List ℕ)
end_line_in answer = find says_end (slice_split (λ b. b == 10) answer)

abbrev pub last_line_of_answer : List ℕ → List ℕ
last_line_of_answer answer = unwrap_or (end_line_in answer) []

-- the line after its mark
abbrev pub end_said : List ℕ → List ℕ
end_said line = drop (if line_begins text_mark line then 2 else 24) line

abbrev pub ending_of_words : List ℕ → ℕ
ending_of_words said =
    if line_begins (codes "ok") said then 1
    else if line_begins (codes "is") said then 2
    else if line_begins (codes "refused") said then 3
    else if line_begins (codes "expected") said then 4
    else if line_begins (codes "bad line") said then 5
    else if line_begins (codes "slot limit") said then 6
    else 0

abbrev pub ending_in : List ℕ → ℕ
ending_in line = ending_of_words (end_said line)

abbrev pub ending_number : List ℕ → ℕ
ending_number answer = ending_in (last_line_of_answer answer)

-- ---- a line, with its CR where it has one

-- what it says to a bench in hand, which a line that is too long doesn't
abbrev pub heard_line : List ℕ → Option (List ℕ)
heard_line line = short (strip_carriage_return line)

-- the bench after it, with the answer that `live` gives
abbrev pub bench_after : HandData → List ℕ → AnsweringBench
bench_after h line = record { hand = (reply h (heard_line line)).0; answer = (reply h (heard_line line)).1 }

-- why it isn't answered
abbrev pub AnswerFaults : Fault → List ℕ → HandData → Type 0
AnswerFaults LogFull line h = IsFull h (heard_line line)
AnswerFaults OutOfMemory line h = Unit {0}
AnswerFaults _ line h = ⊥

abbrev pub AnswersOn : Result Unit Fault → List ℕ → AnsweringBench → AnsweringBench → Type 0
AnswersOn (Ok done) line b d = d ≡ bench_after b.hand line
AnswersOn (Err why) line b d = AnswerFaults why line b.hand

-- the line is answered, and its answer written or without room; or it isn't answered. Where it isn't
-- written, nothing is.
abbrev pub AnswersLine : CallResult → List ℕ → AnsweringBench → AnsweringBench → List ℕ → List ℕ → Type 0
AnswersLine (Ok told) line b d old new =
    (d ≡ bench_after b.hand line) × Writes (ending_number d.answer) (Ok told) d.answer old new
AnswersLine (Err (NoRoom told)) line b d old new =
    (d ≡ bench_after b.hand line) × Writes (ending_number d.answer) (Err (NoRoom told)) d.answer old new
AnswersLine (Err why) line b d old new = AnswerFaults why line b.hand × (new ≡ old)
