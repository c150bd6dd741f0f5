-- What contracts see of a session and its marks.
use Rattle.std.specs.Prelude.{◌≡◌, ◌≤◌, ◌<◌, ◌-◌, ◌^◌, false, IfSome, ℕ, List, [], ◌∷◌, ◌++◌, filter, length, map, not, option_map, reverse, Option, Some, None, Result}
use Rattle.std.specs.Global.{Vec}
use Rattle.std.specs.List.{All, AllPairs}
use Rattle.std.specs.Str.{bytes_eq}
use Rattle.lin_core.specs.declared.log.LogEntry.{LogEntry}
use Rattle.lin_parts.specs.declared.parts.Parts.{Parts}
use Rattle.lin_bench.specs.Marks.{IsMarkOf, state_at}
use Rattle.lin_export.specs.declared.jsonl.Opening.{Opening}
use Rattle.lin_live.specs.Held.{new_hand}
use Rattle.lin_live.specs.Marking.{Marked, bench_at_place}
use Rattle.lin_live.specs.Serving.{WritesAnswer}
use Rattle.lin_live.specs.Told.{HandData, gone_back, heard_answer, written}
use Rattle.lin_live.specs.declared.answer_format.AnswerFormat.TheVariants.{Log}
use Rattle.lin_live.specs.declared.fault.Fault.{Fault}
use Rattle.lin_live.specs.Heard.{Heard}
use Rattle.lin_live.specs.declared.reason.Reason.{Reason}
use Rattle.lin_live.specs.declared.hand.NamedMark.{NamedMark}
use Rattle.lin_live.specs.declared.hand.Hand.TheInside.{Inside}

-- a mark of a log
abbrev pub as_marked : List LogEntry → NamedMark → Marked
as_marked log m = record { name = m.name; bench = state_at log m.at }

-- the marks of a log; none where they aren't known
abbrev pub marks_of : List LogEntry → Option (List NamedMark) → List Marked
marks_of log None = []
marks_of log (Some ms) = map (as_marked log) ms

-- a session with its marks
abbrev pub with_marks : HandData → Option (List NamedMark) → HandData
with_marks h ms = record h { marks = marks_of (reverse h.bench.past) ms }

-- the cluster of a session whose bench was dropped
abbrev pub no_cluster : Parts
no_cluster = record {
  nodes = [];
  signals = [];
  frames = [];
  sporadic = [];
  events = [];
  tables = [];
  errors = [];
  identities = [];
  speed = 0;
  jitter_us = 0;
  base_us = 0;
}

abbrev pub held_of : Option HandData → HandData
held_of None = new_hand Log None [] false no_cluster 0 0
held_of (Some h) = h

abbrev pub mark_items : Option (Vec NamedMark) → Option (List NamedMark)
mark_items marks = option_map (λ ms. ms.items) marks

abbrev pub hand_data : Inside → HandData
hand_data a = with_marks (held_of a.held) (mark_items a.marks)

-- the core of a session was opened so
pub record IsOpening (o : Opening) (h : HandData) : Type 0 where
  pub table : o.table ≡ h.opening
  pub capacity : o.capacity ≡ h.capacity
  pub tables : o.table < length h.cluster.tables
  pub some : 1 ≤ o.capacity
  pub few : o.capacity ≤ 1024

-- a mark is of no more entries than another
abbrev pub IsNoLater : NamedMark → NamedMark → Type 0
IsNoLater m other = m.at.entries ≤ other.at.entries

-- the marks are of the log of a session, whose core was opened so, and none is of fewer entries than one
-- before it
pub record AreItsMarks (o : Opening) (h : HandData) (ms : List NamedMark) : Type 0 where
  pub opening : IsOpening o h
  pub marks : All (λ m. IsMarkOf (reverse h.bench.past) m.at) ms
  pub order : AllPairs IsNoLater ms

abbrev pub HasItsMarks : Inside → Type 0
HasItsMarks a = IfSome a.held (λ h. IfSome (mark_items a.marks) (AreItsMarks a.opening h))

-- the marks with other names than one
abbrev pub other_marks : List NamedMark → NamedMark → List NamedMark
other_marks ms m = filter (λ k. not (bytes_eq k.name m.name)) ms

abbrev pub with_named : List NamedMark → NamedMark → List NamedMark
with_named ms m = other_marks ms m ++ m ∷ []

-- a session that has gone back to the mark at a place
abbrev pub gone_to : HandData → ℕ → HandData
gone_to h i = (gone_back h [] (bench_at_place h.marks i)).0

-- what a line that says this made of a session, and the answer to it, were written; or what of it was
abbrev pub AnswersSaid : HandData → Result (Option Heard) Reason → HandData → Option (List ℕ) → Option (List ℕ) → Result Unit Fault → Type 0
AnswersSaid h said t old new result =
    WritesAnswer (written h (heard_answer h said)) (2 ^ 32 - 1 < length (heard_answer h said).0.bench.past) t old new result
