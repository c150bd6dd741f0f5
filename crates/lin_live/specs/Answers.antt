-- The answers to lines: what they tell, together, and how they are written.
use Rattle.std.specs.Prelude.{◌≡◌, ℕ, List, [], ◌∷◌, ◌++◌, flat_map, reverse, Option, Some, Result, Ok}
use Rattle.lin_parts.specs.declared.parts.Parts.{Parts}
use Rattle.lin_values.specs.Coded.{CodedData}
use Rattle.lin_core.specs.declared.log.LogEntry.{LogEntry}
use Rattle.lin_live.specs.Heard.{Heard}
use Rattle.lin_live.specs.Heard.Heard.{GoBack}
use Rattle.lin_live.specs.Told.{AllHeard, Answer, HandData, line_answer, entries_text, last_line, reply, shown_coding}
use Rattle.lin_live.specs.Transcript.{state_after, short, transcript}
use Rattle.lin_live.specs.declared.answer_format.AnswerFormat.{AnswerFormat}
use Rattle.lin_live.specs.declared.reason.Reason.{Reason}

-- what is answered to lines, each after those before it
abbrev pub answers : HandData → List (List ℕ) → List Answer
answers h [] = []
answers h (line ∷ more) = (line_answer h (short line)).1 ∷ answers (line_answer h (short line)).0 more

-- what a line says doesn't go back to a mark
abbrev pub KeepsLog : Result (Option Heard) Reason → Type 0
KeepsLog (Ok (Some (GoBack name))) = ⊥
KeepsLog said = Unit {0}

-- the entries that the answers tell are those by which the log has grown, in order, if no line goes back
-- to a mark
abbrev pub AnswersAreTheLog : Type 0
AnswersAreTheLog = (h : HandData) (ls : List (List ℕ)) → AllHeard KeepsLog h ls
    → reverse (state_after reply h ls).bench.past
    ≡ reverse h.bench.past ++ flat_map (λ a. a.entries) (answers h ls)

-- the texts of answers, each on the log of those before it
abbrev pub answers_text : AnswerFormat → Parts → Option CodedData → List LogEntry → List Answer → List ℕ
answers_text f c k past [] = []
answers_text f c k past (a ∷ more) =
    (entries_text f c k past a.entries ++ last_line f c k a.ending)
    ++ answers_text f c k (reverse a.entries ++ past) more

-- a transcript has nothing but the texts of entries, and a last line for each line, if none goes back to a
-- mark
abbrev pub AnswersAreWritten : Type 0
AnswersAreWritten = (h : HandData) (ls : List (List ℕ)) → AllHeard KeepsLog h ls
    → transcript reply h ls ≡ answers_text h.format h.cluster (shown_coding h) h.bench.past (answers h ls)
