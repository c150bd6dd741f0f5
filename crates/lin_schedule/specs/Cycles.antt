-- How long the rounds of a schedule table last (ISO 17987-3, schedule tables).
use Rattle.std.specs.Prelude.{ℕ, ◌+◌, sum_by, if◌then◌else◌}
use Rattle.lin_parts.specs.Cluster.{table_of}
use Rattle.lin_parts.specs.declared.parts.Entry.{Entry}
use Rattle.lin_parts.specs.declared.parts.Line.{Line}
use Rattle.lin_parts.specs.declared.parts.Parts.{Parts}
use Rattle.lin_schedule.specs.Ahead.{resolving_lines}
use Rattle.lin_schedule.specs.Carriers.{can_collide}
use Rattle.lin_schedule.specs.Schedule.{total}

-- the time of the table that resolves a collision, where answers can collide
abbrev pub resolving_time : Parts → Entry → ℕ
resolving_time c entry = if can_collide c entry then total (resolving_lines c entry) else 0

-- the time of a slot with it
abbrev pub slot_time : Parts → Line → ℕ
slot_time c line = line.delay_us + resolving_time c line.entry

-- the time of a round in which each collision that can happen does
abbrev pub longest_cycle : Parts → ℕ → ℕ
longest_cycle c t = sum_by (slot_time c) (table_of c t)
