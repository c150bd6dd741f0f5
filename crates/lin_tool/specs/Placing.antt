-- What `play --where` says of a bench script, after its file's name.
use Rattle.std.specs.Prelude.{◌≡◌, ℕ, zero, suc, ◌+◌, List, [], ◌∷◌, ◌++◌, flat_map, if◌then◌else◌, take, reverse, codes}
use Rattle.std.specs.Prelude.{Option, Some, None, option_map}
use Rattle.std.specs.Borrow.{Bor}
use Rattle.std.specs.Fmt.{decimal}
use Rattle.std.specs.Option.{option_map_or}
use Rattle.lin_parts.specs.Cluster.{line_of}
use Rattle.lin_parts.specs.declared.parts.Parts.{Parts}
use Rattle.lin_core.specs.History.{Slot, open_slot, time}
use Rattle.lin_core.specs.declared.log.LogEntry.{LogEntry}
use Rattle.lin_export.specs.Track.{finished_slot_count}
use Rattle.lin_values.specs.Coded.{CodedData}
use Rattle.lin_bench.specs.Files.{SourceData, file_name, place_number_text}
use Rattle.lin_bench.specs.Scripts.{bad_lines}
use Rattle.lin_bench.specs.Played.{is_unmet}
use Rattle.lin_bench.specs.Texts.{bad_line_text, judged_text, reason_text, unmet_text}
use Rattle.lin_bench.specs.declared.got.Judgement.{Judgement}
use Rattle.lin_bench.specs.declared.files.ScriptFile.{ScriptFile}
use Rattle.lin_bench.specs.declared.reason.Reason.{Reason}
use Rattle.lin_bench.specs.declared.reason.Reason.TheVariants as reason
use Rattle.lin_bench.specs.declared.place.LinePlace.{LinePlace}
use Rattle.lin_bench.specs.declared.rules.NodeLimits.{NodeLimits}
use Rattle.lin_tool.specs.declared.placing.Moment.{Moment}

-- a line's number after its file's name, where the script's own one has this name and it includes these
abbrev pub line_place : List ℕ → List ScriptFile → LinePlace → List ℕ
line_place file fs p = file_name file fs p.file ++ (codes ":" ++ (decimal p.line ++ codes ":"))

-- the line of a bad line; of one that includes a file that isn't read, that of the file
abbrev pub unread_text : List ℕ → Reason → List ℕ
unread_text name why = name ++ (codes ": " ++ (reason_text why ++ 10 ∷ []))

abbrev pub bad_line_at : List ℕ → List ScriptFile → LinePlace → Reason → List ℕ
bad_line_at file fs p why = line_place file fs p ++ (codes " bad line: " ++ (reason_text why ++ 10 ∷ []))

abbrev pub bad_at : List ℕ → List ScriptFile → LinePlace → Reason → List ℕ
bad_at file fs p (reason.Unread name) = unread_text name (reason.Unread name)
bad_at file fs p (reason.LongFile name) = unread_text name (reason.LongFile name)
bad_at file fs p why = bad_line_at file fs p why

abbrev pub placed_bad : List ℕ → List ScriptFile → LinePlace × Reason → List ℕ
placed_bad file fs bad = bad_at file fs bad.0 bad.1

-- the history of a log's first entries
abbrev pub past_at : List LogEntry → ℕ → List LogEntry
past_at log n = reverse (take n log)

-- the last of so many slots, which are counted from 0
abbrev pub last_slot_text : ℕ → List ℕ
last_slot_text zero = codes "no slot"
last_slot_text (suc n) = codes "slot " ++ decimal n

-- the last slot that was finished, by its number in a table of slots, and the time
abbrev pub moment_text : ℕ → ℕ → List ℕ
moment_text slots at =
    codes " (" ++ (last_slot_text slots ++ (codes ", " ++ (decimal at ++ codes " us)")))

-- what is said of a judgement that isn't met, without the line's end
abbrev pub placed_missed : List ℕ → List ScriptFile → Parts → List LogEntry → Judgement → List ℕ
placed_missed file fs c log j =
    line_place file fs j.place
    ++ (judged_text c j.judged
    ++ moment_text (finished_slot_count (past_at log j.entries)) (time c (past_at log j.entries)))

-- the line of a judgement, where it isn't met
abbrev pub placed_unmet : List ℕ → List ScriptFile → Parts → List LogEntry → Judgement → List ℕ
placed_unmet file fs c log j =
    if is_unmet j.judged then placed_missed file fs c log j ++ 10 ∷ [] else []

-- the same, where the file has a name; otherwise the line's number stands before it
abbrev pub missed_line : Option (Bor (List ℕ)) → List ScriptFile → Parts → List LogEntry → Judgement → List ℕ
missed_line None fs c log j = codes "script " ++ (place_number_text fs j.place ++ judged_text c j.judged)
missed_line (Some file) fs c log j = placed_missed file.now fs c log j

-- what is said of a script's bad lines: all of them after the file's name, or without a name the
-- first one
abbrev pub bad_text : Option (Bor (List ℕ)) → Parts → Option CodedData → List NodeLimits → SourceData → LinePlace × Reason → List ℕ
bad_text None c k limits s first = bad_line_text s.files first.0 first.1
bad_text (Some file) c k limits s first = flat_map (placed_bad file.now s.files) (bad_lines c k limits s)

-- what is said of the judgements of a play that aren't met
abbrev pub missed_text : Option (Bor (List ℕ)) → List ScriptFile → Parts → List LogEntry → List Judgement → List ℕ
missed_text None fs c log js = flat_map (unmet_text c fs) js
missed_text (Some file) fs c log js = flat_map (placed_unmet file.now fs c log) js

-- the entry of a slot
abbrev pub entry_in : Slot → ℕ × ℕ
entry_in s = (s.table, s.entry)

-- what of a history is told
abbrev pub moment_of : Parts → List LogEntry → Moment
moment_of c past = record {
  slot = option_map entry_in (open_slot past);
  slots = finished_slot_count past;
  time_us = time c past;
}

-- what holds of each log in which the judgement was made at this moment
abbrev pub AtMoment : Parts → Judgement → Moment → (List LogEntry → Type 0) → Type 0
AtMoment c j moment Holds = (log : List LogEntry) → moment ≡ moment_of c (past_at log j.entries) → Holds log

-- what a finish that is done makes of it
abbrev pub finished_on : Parts → Moment → Moment
finished_on c m =
    option_map_or
    (λ (e : ℕ × ℕ). record {
      slot = None;
      slots = m.slots + 1;
      time_us = m.time_us + (line_of c e.0 e.1).delay_us;
    }) m.slot m
