-- Lines in hand and bench scripts.
use Rattle.std.specs.Prelude.{◌≡◌, ℕ, ◌≤◌, ◌||◌, Bool, true, false, List, [], length, map, Ok, Option}
use Rattle.std.specs.Prelude.{codes}
use Rattle.std.specs.List.{AllByRecursion}
use Rattle.std.specs.Str.Lines.{strip_carriage_return}
use Rattle.lin_parts.specs.declared.parts.Parts.{Parts}
use Rattle.lin_bench.specs.Fields.{line_fields}
use Rattle.lin_values.specs.Coded.{CodedData}
use Rattle.lin_bench.specs.Plain.{resolves}
use Rattle.lin_bench.specs.Scripts.{read_lines}
use Rattle.lin_bench.specs.Played.{Run, initial_bench, play_result, some_unmet}
use Rattle.lin_bench.specs.Slots.{slot_limit}
use Rattle.lin_bench.specs.Strict.{has_test}
use Rattle.lin_bench.specs.declared.line.ScriptLine.{ScriptLine}
use Rattle.lin_bench.specs.declared.place.LinePlace.{LinePlace}
use Rattle.lin_bench.specs.declared.rules.NodeLimits.{NodeLimits}
use Rattle.lin_live.specs.Marking.{has_first_word}
use Rattle.lin_live.specs.Told.{HandData, reply}
use Rattle.lin_live.specs.Transcript.{state_after, most_bytes}
use Rattle.lin_live.specs.declared.answer_format.AnswerFormat.{AnswerFormat}

-- whether fields are those of a line that a session answers by itself
abbrev pub is_of_live : List (List ℕ) → Bool
is_of_live fs =
    has_first_word (codes "?") fs
    || (has_first_word (codes "mark") fs || (has_first_word (codes "back") fs || has_first_word (codes "set") fs))

-- a line that is no question, sets no mark and no parameter, goes back to no mark, stands for no other line
-- and isn't too long, with its CR where it has one
abbrev pub IsPlain : List ℕ → Type 0
IsPlain line =
    (length (strip_carriage_return line) ≤ most_bytes)
    × (is_of_live (line_fields (strip_carriage_return line)) ≡ false)
    × (resolves (strip_carriage_return line) ≡ false)

-- the bench in hand that a play has come to (a byte order mark would be a part of the next line)
abbrev pub in_hand_of : AnswerFormat → Option CodedData → List NodeLimits → Bool → Parts → ℕ → ℕ → Run → HandData
in_hand_of format k limits is_physical c opening capacity run = record {
  format = format;
  cluster = c;
  opening = opening;
  capacity = capacity;
  coded = k;
  limits = limits;
  is_physical = is_physical;
  sets = [];
  bench = record run.bench { left = slot_limit };
  marks = [];
  begun = true;
  was_bad = false;
  was_unmet = some_unmet run.judgements;
}

-- a play of no line
abbrev pub empty_run : Run
empty_run = record { bench = initial_bench; judgements = [] }

-- The lines of a bench script without bad lines and tests and within the limit of slots come, answered in
-- hand, to the bench that its play comes to, with the same log; an expectation isn't met in one
-- exactly where one isn't met in the other.
abbrev pub LiveIsPlay : Type 0
LiveIsPlay = (format : AnswerFormat) (k : Option CodedData) (limits : List NodeLimits) (is_physical : Bool) (c : Parts)
    (opening capacity : ℕ) (ls : List (List ℕ))
    (said : List (LinePlace × ScriptLine)) (run : Run)
    → AllByRecursion IsPlain ls → has_test said ≡ false → read_lines c k limits 1 ls ≡ Ok said
    → play_result false c opening capacity said ≡ Ok run
    → state_after reply (in_hand_of format k limits is_physical c opening capacity empty_run) (map strip_carriage_return ls)
    ≡ in_hand_of format k limits is_physical c opening capacity run
