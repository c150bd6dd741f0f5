-- The next entry of a log, as the code has it with what is kept of the entries before it.
use Rattle.std.specs.Prelude.{◌≡◌, ◌∷◌, ℕ, List, Option}
use Rattle.lin_parts.specs.declared.parts.Parts.{Parts}
use Rattle.lin_core.specs.History.{time}
use Rattle.lin_core.specs.declared.log.LogEntry.{LogEntry}
use Rattle.lin_values.specs.Coded.{CodedData}
use Rattle.lin_export.specs.Telling.{LogFormat}
use Rattle.lin_export.specs.Track.{track_of}
use Rattle.lin_export.specs.Vcd.{Group, step_groups}
use Rattle.lin_export.specs.declared.track.TrackedEntry.{TrackedEntry}

-- the entries before it are these, the newest first
abbrev pub IsAfter : TrackedEntry → List LogEntry → Type 0
IsAfter next past = next.track.now ≡ track_of next.cluster.now past

-- something holds for the entries before it
abbrev pub IfAfter : TrackedEntry → (List LogEntry → Type 0) → Type 0
IfAfter next holds = (past : List LogEntry) → IsAfter next past → holds past

-- something holds for the entries before it, if this is kept of them
abbrev pub IfKept : (Parts → List LogEntry → Type 0) → TrackedEntry → (List LogEntry → Type 0) → Type 0
IfKept keeps next holds = IfAfter next (λ past. keeps next.cluster.now past → holds past)

-- what it says in a format
abbrev pub says_next : (Parts → LogFormat) → TrackedEntry → List LogEntry → List ℕ
says_next format next past = (format next.cluster.now).says next.entry.now past

-- what its step changes by itself, if it was done
abbrev pub next_groups : TrackedEntry → Option CodedData → List LogEntry → List Group
next_groups next k past =
    step_groups next.cluster.now k past (time next.cluster.now (next.entry.now ∷ past)) next.entry.now.step
