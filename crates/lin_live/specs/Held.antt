-- What contracts see of a bench that a hand holds.
use Rattle.std.specs.Prelude.{◌≡◌, ◌++◌, ℕ, Box, Bool, false, List, [], IfSome, Option, Result, drop, reverse, take}
use Rattle.std.specs.Borrow.{Bor}
use Rattle.std.specs.Global.{Global}
use Rattle.lin_values.specs.Coded.{CodedData}
use Rattle.lin_core.specs.Core.{CoreData}
use Rattle.lin_core.specs.declared.log.LogEntry.{LogEntry}
use Rattle.lin_bench.specs.Bench.{with_all_slots, state_of}
use Rattle.lin_bench.specs.Played.{initial_bench}
use Rattle.lin_bench.specs.declared.rules.NodeLimits.{NodeLimits}
use Rattle.lin_bench.specs.declared.fault.MakeFault.{MakeFault}
use Rattle.lin_bench.specs.declared.fault.MakeFault.TheVariants as makes
use Rattle.lin_bench.specs.declared.got.Verdict.{Verdict}
use Rattle.lin_export.specs.Jsonl.{IsObjectTrackOf, ObjectTrackData}
use Rattle.lin_export.specs.Track.{TrackData, track_of}
use Rattle.lin_export.specs.WhereTold.{given_coding}
use Rattle.lin_text.specs.Written.{WritesText}
use Rattle.lin_text.specs.declared.fault.WriteFailed.{WriteFailed}
use Rattle.lin_live.specs.Told.{Ending, Failed, Fine, Is, Limit, Refused}
use Rattle.lin_live.specs.Told.{HandData, ending_text, entries_text, hash_ending, object_ending, shown_coding, verdict_ending}
use Rattle.lin_live.specs.Values.{IsBoxedKeptOf, as_said}
use Rattle.lin_live.specs.declared.answer_format.AnswerFormat.{AnswerFormat}
use Rattle.lin_live.specs.declared.answer_objects.LineEnding.{LineEnding}
use Rattle.lin_live.specs.declared.answer_value.AnswerValue.{AnswerValue}
use Rattle.lin_live.specs.declared.answer_objects.LineEnding.TheVariants as code
use Rattle.lin_live.specs.declared.fault.Fault.{Fault}
use Rattle.lin_live.specs.declared.fault.Fault.TheVariants.{LogFull, OutOfMemory}
use Rattle.lin_live.specs.declared.held.HeldBench.TheInside.{Inside}
use Rattle.lin_live.specs.declared.held.KeptTracks.{KeptTracks}
use Rattle.lin_parts.specs.declared.parts.Parts.{Parts}

abbrev pub held_data : Inside → HandData
held_data a = record {
  format = a.format;
  cluster = a.bench.core.cluster;
  opening = a.bench.core.opening;
  capacity = a.bench.core.capacity;
  coded = a.coded;
  limits = a.limits;
  is_physical = a.is_physical;
  sets = a.sets;
  bench = state_of (with_all_slots a.bench);
  marks = [];
  begun = a.begun;
  was_bad = a.was_bad;
  was_unmet = a.was_unmet;
}

-- a history as it was when it had this many entries
abbrev pub earlier : ℕ → List LogEntry → List LogEntry
earlier count past = reverse (take count (reverse past))

-- the last line of the answer to a line that was made, whose entries are those of a core's log from one on
abbrev pub hash_line_ending : CoreData → ℕ → Option CodedData → Verdict → List ℕ
hash_line_ending core from k verdict =
    hash_ending core.cluster k (verdict_ending core.cluster verdict (drop from core.log))

-- the texts of a line's entries and of how the line ends were written; or a beginning of them
abbrev pub WritesLine : Option (List ℕ) → Option (List ℕ) → Result Unit WriteFailed → List ℕ → CoreData → ℕ → Verdict → Type 0
WritesLine old new result entries core from verdict =
    (k : Option CodedData) → WritesText old new result (entries ++ hash_line_ending core from k verdict)

-- the answer to a question, by the value that the code has for it
abbrev pub value_line : Parts → Option (Bor CodedData) → AnswerValue → List ℕ
value_line c coded value = hash_ending c (given_coding coded) (Is (as_said c value))

abbrev pub value_object : Parts → Option (Bor CodedData) → AnswerValue → List ℕ
value_object c coded value = object_ending c (given_coding coded) (Is (as_said c value))

-- how a line ends; the texts of a failed check have a space before them
abbrev pub ending_of : LineEnding → Ending
ending_of code.Fine = Fine
ending_of code.Limit = Limit
ending_of (code.Failed what got) = Failed (drop 1 what.items) (drop 1 got.items)
ending_of (code.Refused why) = Refused why

-- objects and that of how a line ends were written; or a beginning of them
abbrev pub WritesLineObject : Option (List ℕ) → Option (List ℕ) → Result Unit WriteFailed → List ℕ → LineEnding → Type 0
WritesLineObject old new result objects ending =
    (c : Parts) (k : Option CodedData) → WritesText old new result (objects ++ object_ending c k (ending_of ending))

-- the entries of a session's log from one on, in a format
abbrev pub entries_from : AnswerFormat → HandData → ℕ → List ℕ
entries_from f h from =
    entries_text f h.cluster (shown_coding h) (earlier from h.bench.past) (drop from (reverse h.bench.past))

-- the answer to a line that was made, whose entries are those of a session's log from one on
abbrev pub line_text : HandData → ℕ → Verdict → List ℕ
line_text h from verdict =
    entries_from h.format h from
    ++ ending_text h (verdict_ending h.cluster verdict (drop from (reverse h.bench.past)))

-- the track in a box is that of a history
abbrev pub IsBoxedTrack : Parts → List LogEntry → Box TrackData Global → Type 0
IsBoxedTrack c past b = b.value ≡ track_of c past

-- also that for objects
abbrev pub IsBoxedTrackOf : Parts → List LogEntry → Box ObjectTrackData Global → Type 0
IsBoxedTrackOf c past b = IsObjectTrackOf c past b.value

-- the tracks for writing further entries, if they are at hand, are those of a history
pub record IsKept (c : Parts) (past : List LogEntry) (kept : KeptTracks) : Type 0 where
  pub track : IfSome kept.track (IsBoxedTrack c past)
  pub objects : IfSome kept.objects (IsBoxedTrackOf c past)

-- the tracks, if they are at hand, are those of the whole log, and the slot that ended last is kept of a
-- beginning of the log
pub record IsFollowed (a : Inside) : Type 0 where
  pub track : IfSome a.track (IsBoxedTrack a.bench.core.cluster (reverse a.bench.core.log))
  pub objects : IfSome a.objects (IsBoxedTrackOf a.bench.core.cluster (reverse a.bench.core.log))
  pub slot : IfSome a.last_slot (IsBoxedKeptOf a.bench.core.cluster a.bench.core.log)

-- a bench in hand on which no line was made
abbrev pub new_hand : AnswerFormat → Option CodedData → List NodeLimits → Bool → Parts → ℕ → ℕ → HandData
new_hand format coded limits is_physical c opening capacity = record {
  format = format;
  cluster = c;
  opening = opening;
  capacity = capacity;
  coded = coded;
  limits = limits;
  is_physical = is_physical;
  sets = [];
  bench = initial_bench;
  marks = [];
  begun = false;
  was_bad = false;
  was_unmet = false;
}

abbrev pub fault_of : MakeFault → Fault
fault_of makes.LogFull = LogFull
fault_of makes.OutOfMemory = OutOfMemory
