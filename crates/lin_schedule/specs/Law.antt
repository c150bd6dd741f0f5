-- How the time in a table tells its entries.
use Rattle.std.specs.Prelude.{◌≡◌, ℕ, zero, suc, ◌+◌, ◌%◌, ◌<◌, Bool, true, false, List, ◌∷◌}
use Rattle.std.specs.Prelude.{◌++◌, length, map, replicate, Some, None}
use Rattle.lin_parts.specs.Cluster.{table_of, line_of}
use Rattle.lin_parts.specs.declared.parts.Line.{Line}
use Rattle.lin_parts.specs.declared.parts.Parts.{Parts}
use Rattle.lin_schedule.specs.Schedule.{Move, Slot, offset, entry_at, due, due_line, resolving}
use Rattle.lin_schedule.specs.Schedule.{standing}

-- no two entries of a table have one offset
abbrev pub HaveOwnOffsets : List Line → Type 0
HaveOwnOffsets table =
    (k j : ℕ) → k < length table → j < length table → offset table k ≡ offset table j → k ≡ j

-- the time in which the first n slots of a table run, its entries in turn, round and round
abbrev pub time_of_slots : Parts → ℕ → ℕ → ℕ
time_of_slots c t zero = 0
time_of_slots c t (suc n) = time_of_slots c t n + (line_of c t (n % length (table_of c t))).delay_us

-- after the time of n slots the entry in turn is due
abbrev pub IsInTurn : Parts → ℕ → ℕ → Type 0
IsInTurn c t n = entry_at (table_of c t) (time_of_slots c t n) ≡ n % length (table_of c t)

-- after n slots without a clash the entry in turn is due
abbrev pub IsDueInTurn : Parts → ℕ → ℕ → Type 0
IsDueInTurn c t n = due c (standing c t (replicate n (Slot false))) ≡ (t, n % length (table_of c t))

-- after a clash in a main slot that the table r resolves, the slots are r's in its order, whether
-- they clash or not; after as many as r has entries the schedule stands as if the slot had not
-- clashed
pub record IsExcursion (c : Parts) (opening : ℕ) (moves : List Move) (r : ℕ)
    (clashes : List Bool) : Type 0 where
  pub inside : length clashes < length (table_of c r)
      → due c (standing c opening (map Slot clashes ++ Slot true ∷ moves)) ≡ (r, length clashes)
  pub after : length clashes ≡ length (table_of c r)
      → standing c opening (map Slot clashes ++ Slot true ∷ moves)
      ≡ standing c opening (Slot false ∷ moves)

-- the slot after these moves is a main slot, and the table r resolves it
pub record IsResolvedBy (c : Parts) (opening : ℕ) (moves : List Move) (r : ℕ) : Type 0 where
  pub main : (standing c opening moves).excursion ≡ None
  pub resolver : resolving c (due_line c (standing c opening moves)).entry ≡ Some r
  pub entries : 0 < length (table_of c r)

-- then whatever clashes in it, its excursion is one
abbrev pub RunsOnce : Parts → ℕ → List Move → ℕ → Type 0
RunsOnce c opening moves r =
    IsResolvedBy c opening moves r
    → (clashes : List Bool) → IsExcursion c opening moves r clashes
