-- Marks, and the bench at them.
use Rattle.std.specs.Prelude.{◌≤◌, List, length, reverse, take}
use Rattle.lin_core.specs.declared.log.LogEntry.{LogEntry}
use Rattle.lin_bench.specs.Made.{BenchState}
use Rattle.lin_bench.specs.Searches.{IsSearchState, taken_by}
use Rattle.lin_bench.specs.Slots.{slot_limit}
use Rattle.lin_bench.specs.declared.marks.Mark.{Mark}

-- a mark was made when a log had its first entries, so many
pub record IsMarkOf (log : List LogEntry) (m : Mark) : Type 0 where
  pub entries : m.entries ≤ length log
  pub taken : IsSearchState (take m.entries log) m.taken

-- the bench at a mark of a log, of which lines may make 1,000,000 slots
abbrev pub state_at : List LogEntry → Mark → BenchState
state_at log m = record {
  past = reverse (take m.entries log);
  rules = m.rules;
  taken = taken_by (take m.entries log) m.taken;
  left = slot_limit;
}
