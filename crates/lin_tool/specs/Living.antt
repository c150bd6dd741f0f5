-- What the program's live answers.
use Rattle.std.specs.Prelude.{◌≡◌, ℕ, Bool, false, if◌then◌else◌, List, [], Option, Result, Ok, Err}
use Rattle.std.specs.Io.KnownBytes.{Appends, Keeps}
use Rattle.lin_parts.specs.declared.parts.Parts.{Parts}
use Rattle.lin_values.specs.Coded.{CodedData}
use Rattle.lin_bench.specs.Rules.{no_rules}
use Rattle.lin_bench.specs.Slots.{slot_limit}
use Rattle.lin_bench.specs.declared.rules.NodeLimits.{NodeLimits}
use Rattle.lin_export.specs.Jsonl.{run_line}
use Rattle.lin_live.specs.Serving.{IsLive}
use Rattle.lin_live.specs.Told.{HandData, IsFull, reply}
use Rattle.lin_live.specs.declared.answer_format.AnswerFormat.{AnswerFormat}
use Rattle.lin_live.specs.declared.answer_format.AnswerFormat.TheVariants.{Jsonl}
use Rattle.lin_live.specs.declared.fault.Fault.{Fault as LiveFault}
use Rattle.lin_live.specs.declared.fault.Fault.TheVariants as live
use Rattle.lin_tool.specs.Formats.{Begins}
use Rattle.lin_tool.specs.Opening.{room_for}
use Rattle.lin_tool.specs.declared.fault.Fault.{Fault}
use Rattle.lin_tool.specs.declared.fault.Fault.TheVariants.{BadLines, Unmet, OutOfMemory}
use Rattle.lin_tool.specs.declared.fault.Fault.TheVariants.{ReadFailed, WriteFailed, LogFull}
use Rattle.lin_tool.specs.declared.opening.Opened.{Opened}

-- the program's fault for one of answering lines
abbrev pub live_fault : LiveFault → Fault
live_fault live.ReadFailed = ReadFailed
live_fault live.WriteFailed = WriteFailed
live_fault live.OutOfMemory = OutOfMemory
live_fault live.LogFull = LogFull

-- a bench in hand over a cluster, on which no line was made
abbrev pub hand_of_cluster : AnswerFormat → Option CodedData → List NodeLimits → Bool → Parts → ℕ → ℕ → HandData
hand_of_cluster format k limits is_physical c opening capacity = record {
  format = format;
  cluster = c;
  opening = opening;
  capacity = capacity;
  coded = k;
  limits = limits;
  is_physical = is_physical;
  sets = [];
  bench = record { past = []; rules = no_rules; taken = []; left = slot_limit };
  marks = [];
  begun = false;
  was_bad = false;
  was_unmet = false;
}

-- the same over what was opened
abbrev pub hand_of_opened : AnswerFormat → Opened → HandData
hand_of_opened format o =
    hand_of_cluster format o.coded o.limits o.settings.is_physical o.cluster o.table (room_for o.settings.capacity)

-- what answers begin with: as objects, what the run is of
abbrev pub BeginsAnswers : AnswerFormat → List ℕ → Result Unit Fault → Option (List ℕ)
    → Option (List ℕ) → Type 0
BeginsAnswers Jsonl run (Ok done) old new = Appends old new run
BeginsAnswers Jsonl run (Err fault) old new = Begins old new run
BeginsAnswers format run result old new = (result ≡ Ok tt) × Keeps old new

-- the line of the run of what was opened
abbrev pub opened_line : Opened → List ℕ
opened_line o = run_line o.cluster o.table (room_for o.settings.capacity)

-- how a bench ends on which all lines were answered: its answers have told which lines were bad, and
-- which expectations weren't met
abbrev pub session_result : HandData → Result Unit Fault
session_result t =
    if t.was_bad then Err BadLines else (if t.was_unmet then Err (Unmet (Ok tt)) else Ok tt)

abbrev pub ends : HandData → Result Unit LiveFault → Result Unit Fault
ends t (Ok done) = session_result t
ends t (Err fault) = Err (live_fault fault)

-- What live answers on a bench in hand, what it read, and what the writer took: the answers to the
-- lines, each on the bench of those before it.
abbrev pub Lives : HandData → Result Unit Fault → Option (List ℕ) → Option (List ℕ)
    → Option (List ℕ) → Option (List ℕ) → Type 0
Lives h result told left old new =
    (t : HandData) × (done : Result Unit LiveFault)
    × IsLive reply IsFull h t told left old new done
    × (result ≡ ends t done)
