-- How long a node waits in a schedule table that runs undisturbed (ISO 17987-3, schedule tables):
-- over all walks, of which only the collisions are free.
use Rattle.std.specs.Prelude.{◌≡◌, ℕ, suc, ◌<◌, ◌≤◌, ◌&&◌, not, Bool, true, List, [], ◌∷◌, ◌++◌}
use Rattle.std.specs.Prelude.{map, sum_by, count_by, All, Option, Some, None}
use Rattle.lin_parts.specs.declared.parts.Parts.{Parts}
use Rattle.lin_parts.specs.declared.parts.Line.{Line}
use Rattle.lin_schedule.specs.Carriers.{Carriers, carries, can_collide}
use Rattle.lin_schedule.specs.Schedule.{Slot, due_line, standing}

-- a slot of a walk: its entry with the delay, and whether the answers in it collide
pub record Passed : Type 0 where
  pub line : Line
  pub collides : Bool

-- the slots in which a table runs from its start, the newest first, where their answers collide so
abbrev pub walk : Parts → ℕ → List Bool → List Passed
walk c t [] = []
walk c t (collides ∷ earlier) =
    record { line = due_line c (standing c t (map Slot earlier)); collides = collides }
    ∷ walk c t earlier

-- answers collide only where they can
abbrev pub IsUndisturbed : Parts → List Passed → Type 0
IsUndisturbed c slots =
    All (λ slot. slot.collides ≡ true → can_collide c slot.line.entry ≡ true) slots

-- whether a slot carries it: one with a collision carries nothing
abbrev pub is_carried : Carriers → Passed → Bool
is_carried k slot = carries k slot.line.entry && not slot.collides

-- how many of these slots carry it
abbrev pub carried_in : Carriers → List Passed → ℕ
carried_in k slots = count_by (is_carried k) slots

-- the time of slots in microseconds
abbrev pub walk_time : List Passed → ℕ
walk_time slots = sum_by (λ slot. slot.line.delay_us) slots

-- A walk of table t in which a write or a message stands in the slot `written`, and these slots
-- have passed since. So much time has passed since the start of the slot `written`, behind whose
-- answer it may stand.
pub record IsWaited (c : Parts) (t : ℕ) (later : List Passed) (time : ℕ) : Type 0 where
  pub collisions : List Bool
  pub written : Passed
  pub earlier : List Passed
  pub is : walk c t collisions ≡ later ++ written ∷ earlier
  pub undisturbed : IsUndisturbed c (walk c t collisions)
  pub passed : time ≡ walk_time (later ++ written ∷ [])

-- a wait that goes on: fewer than n slots have carried it
pub record IsWaiting (c : Parts) (t : ℕ) (k : Carriers) (n time : ℕ) : Type 0 where
  pub later : List Passed
  pub waited : IsWaited c t later time
  pub few : carried_in k later < n

-- a wait that ends: the newest slot is the n-th that carries it
pub record IsWait (c : Parts) (t : ℕ) (k : Carriers) (n time : ℕ) : Type 0 where
  pub last : Passed
  pub between : List Passed
  pub waited : IsWaited c t (last ∷ between) time
  pub ends : is_carried k last ≡ true
  pub number : suc (carried_in k between) ≡ n

-- the longest wait: some walk has it, none a longer one, and none goes on until then
pub record IsLongestWait (c : Parts) (t : ℕ) (k : Carriers) (n time : ℕ) : Type 0 where
  pub met : IsWait c t k n time
  pub longest : (other : ℕ) → IsWait c t k n other → other ≤ time
  pub over : (other : ℕ) → IsWaiting c t k n other → other < time

-- no longest wait: beyond each time some walk goes on waiting
abbrev pub IsEndless : Parts → ℕ → Carriers → ℕ → Type 0
IsEndless c t k n = (time : ℕ) → (other : ℕ) × (time ≤ other × IsWaiting c t k n other)

-- the longest wait in a table until n slots have carried it, or none where it has no bound
abbrev pub IsWorst : Parts → ℕ → Carriers → ℕ → Option ℕ → Type 0
IsWorst c t k n (Some time) = IsLongestWait c t k n time
IsWorst c t k n None = IsEndless c t k n
