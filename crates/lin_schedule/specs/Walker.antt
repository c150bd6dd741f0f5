-- What contracts see of a walker, and the moves that it stands for.
use Rattle.std.specs.Prelude.{◌≡◌, ℕ, ◌<◌, List, length, Option, option_map}
use Rattle.std.specs.Option.{ForSome}
use Rattle.lin_parts.specs.Cluster.{table_of}
use Rattle.lin_parts.specs.declared.parts.Parts.{Parts}
use Rattle.lin_schedule.specs.Schedule.{Move, Standing, due, due_in_main, standing}

-- the table and entry of the next slot, and, inside an excursion, those with which the schedule
-- goes on after it
pub record Position : Type 0 where
  pub place : ℕ × ℕ
  pub back : Option (ℕ × ℕ)

-- the position of a schedule that stands so
abbrev pub position_of : Parts → Standing → Position
position_of c s = record { place = due c s; back = option_map (λ _. due_in_main c s) s.excursion }

-- on this cluster, where the schedule opened with this table, the walker stands for these moves,
-- the newest first
abbrev pub Stands : Parts → ℕ → Position → List Move → Type 0
Stands c opening walker moves = walker ≡ position_of c (standing c opening moves)

-- the cluster has this table, and it has this entry
abbrev pub HasEntry : Parts → ℕ × ℕ → Type 0
HasEntry c place = (place.0 < length c.tables) × (place.1 < length (table_of c place.0))

-- the walker walks through this cluster's tables
pub record Walks (c : Parts) (walker : Position) : Type 0 where
  pub place : HasEntry c walker.place
  pub back : ForSome walker.back (HasEntry c)
