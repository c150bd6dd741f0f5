-- Promises rest on this: which slot comes next.
use Rattle.std.specs.Prelude.{ℕ, if◌then◌else◌, List, Option, Some, None, is_some}
use Rattle.lin_parts.specs.Cluster.{line_of}
use Rattle.lin_core.specs.History.{open_slot, LogEntry, Parts}
use Rattle.lin_core.specs.Slots.{header, next_due}

-- a place in the schedule, and the header of a slot there
abbrev pub slot_at : Parts → List LogEntry → ℕ × ℕ → ℕ × ℕ × Option ℕ
slot_at c past at = (at.0, at.1, header c past (line_of c at.0 at.1).entry)

-- the table, the entry and the header of the slot that an open would begin, were the cluster awake;
-- none where one is open
abbrev pub next_slot : Parts → ℕ → List LogEntry → Option (ℕ × ℕ × Option ℕ)
next_slot c opening past =
    if is_some (open_slot past) then None else Some (slot_at c past (next_due c opening past))
