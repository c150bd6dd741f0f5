-- The entries of a history that finished a slot.
use Rattle.std.specs.Prelude.{◌≡◌, ◌<◌, ℕ, List, [], ◌∷◌, Option, None, Some, if◌then◌else◌, length, reverse, take}
use Rattle.lin_core.specs.History.{did, is_finish}
use Rattle.lin_core.specs.declared.log.LogEntry.{LogEntry}

-- the history before the last finish that was done
abbrev pub before_last_finish : List LogEntry → Option (List LogEntry)
before_last_finish [] = None
before_last_finish (e ∷ past) = if did is_finish e then Some past else before_last_finish past

-- the entry at this place, of these in order, is the last one that finished a slot
abbrev pub IsLastFinish : List LogEntry → Option ℕ → Type 0
IsLastFinish es None = before_last_finish (reverse es) ≡ None
IsLastFinish es (Some i) = (i < length es) × (before_last_finish (reverse es) ≡ Some (reverse (take i es)))
