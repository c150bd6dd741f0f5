-- The objects of a run, with the failed checks of its script.
use Rattle.std.specs.Prelude.{ℕ, zero, suc, if◌then◌else◌, List, [], ◌∷◌, ◌++◌, drop, length, max, min, reverse, take}
use Rattle.std.specs.Prelude.{Option, None, option_map, slice_get}
use Rattle.std.specs.List.{count_by}
use Rattle.std.specs.Option.{option_map_or}
use Rattle.lin_parts.specs.declared.parts.Parts.{Parts}
use Rattle.lin_core.specs.Core.{CoreData}
use Rattle.lin_core.specs.declared.log.LogEntry.{LogEntry}
use Rattle.lin_values.specs.Coded.{CodedData}
use Rattle.lin_bench.specs.Files.{file_name}
use Rattle.lin_bench.specs.Played.{is_unmet}
use Rattle.lin_bench.specs.Tests.{test_text}
use Rattle.lin_bench.specs.Texts.{found_text, what_text}
use Rattle.lin_bench.specs.declared.files.ScriptFile.{ScriptFile}
use Rattle.lin_bench.specs.declared.got.Judgement.{Judgement}
use Rattle.lin_bench.specs.declared.tests.TestName.{TestName}
use Rattle.lin_export.specs.Jsonl.{IsObjectTrackOf, ObjectTrackData, end_line, objects_of, run_line, unmet_line}
use Rattle.lin_export.specs.WhereTold.{given_coding}
use Rattle.lin_export.specs.declared.jsonl.Counts.{Counts}
use Rattle.lin_tool.specs.Page.{events_so, is_lost_event, is_refusal}
use Rattle.lin_tool.specs.Tally.{waiting_in}
use Rattle.lin_tool.specs.declared.formats.Shown.{Shown}

-- the name of test t of these; none for 0
abbrev pub test_named : List TestName → ℕ → Option (List ℕ)
test_named ts zero = None
test_named ts (suc i) = option_map test_text (slice_get ts i)

-- a failed check of a line of a file of this name, in a script with these tests, made after a history
abbrev pub failed_check_object : Parts → List ℕ → List TestName → List LogEntry → Judgement → List ℕ
failed_check_object c script ts past j =
    if is_unmet j.judged
    then unmet_line c past script j.place.line (test_named ts j.place.test) (what_text c j.judged)
    (option_map_or (λ text. text) (found_text c j.judged) [])
    else []

-- what holds of each history of which this is the track
abbrev pub AfterTrack : Parts → ObjectTrackData → (List LogEntry → Type 0) → Type 0
AfterTrack c track Holds = (past : List LogEntry) → IsObjectTrackOf c past track → Holds past

-- the objects of the entries from one on, and each failed check after the entries that the log had then
abbrev pub checked_objects : Parts → Option CodedData → List ℕ → List ScriptFile → List TestName → List LogEntry → ℕ
    → List Judgement → List ℕ
checked_objects c k script fs ts log from [] = objects_of c k (reverse (take from log)) (drop from log)
checked_objects c k script fs ts log from (j ∷ js) =
    let end = max (min j.entries (length log)) from
    in objects_of c k (reverse (take from log)) (drop from (take end log))
    ++ (failed_check_object c (file_name script fs j.place.file) ts (reverse (take end log)) j ++ checked_objects c k script fs ts log end js)

-- a run in numbers
abbrev pub counts_of : Parts → List LogEntry → List Judgement → Counts
counts_of c log js = record {
  expected = length js;
  unmet = count_by (λ (j : Judgement). is_unmet j.judged) js;
  refused = count_by (λ (e : LogEntry). is_refusal e.reply) log;
  lost = events_so is_lost_event log;
  waiting = waiting_in c (reverse log);
}

-- the objects of a run that opened with this table and this capacity of the queues
abbrev pub objects : Parts → Option CodedData → ℕ → ℕ → List ℕ → List ScriptFile → List LogEntry → List TestName
    → List Judgement → List ℕ
objects c k opening capacity script fs log ts js =
    run_line c opening capacity
    ++ (checked_objects c k script fs ts log 0 js ++ end_line c (reverse log) (counts_of c log js))

-- the same of a core whose log is shown so, in a play of a script of this name
abbrev pub shown_objects : Shown → List ℕ → CoreData → List ℕ
shown_objects s script core =
    objects core.cluster (given_coding s.coded) s.table s.capacity script s.files.now core.log s.tests.now
    s.judgements.now

abbrev pub shown_checked : Shown → List ℕ → CoreData → List ℕ
shown_checked s script core =
    checked_objects core.cluster (given_coding s.coded) script s.files.now s.tests.now core.log 0 s.judgements.now
