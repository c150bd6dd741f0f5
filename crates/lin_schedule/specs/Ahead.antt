-- The times that lie ahead of a slot, where those ahead of the next one are known.
use Rattle.std.specs.Prelude.{◌≡◌, ℕ, zero, suc, ◌+◌, ◌-◌, ◌<◌, ◌≤◌, max, nat_lt}
use Rattle.std.specs.Prelude.{if◌then◌else◌, List, [], ◌∷◌, length}
use Rattle.lin_parts.specs.Cluster.{event_of, line_of, table_of}
use Rattle.lin_parts.specs.declared.parts.Parts.{Parts}
use Rattle.lin_parts.specs.declared.parts.Line.{Line}
use Rattle.lin_parts.specs.declared.parts.Entry.{Entry}
use Rattle.lin_parts.specs.declared.parts.Entry.TheVariants.{Event}
use Rattle.lin_schedule.specs.Carriers.{Carriers, carries, can_collide}

-- the entry after one, the first again after the last
abbrev pub next_entry : List Line → ℕ → ℕ
next_entry table i = if nat_lt (suc i) (length table) then suc i else 0

-- how many carrying slots are still wanted after an entry's slot
abbrev pub left : Carriers → Entry → ℕ → ℕ
left k entry n = if carries k entry then n - 1 else n

-- from the start of an excursion through these lines to the end of the n-th slot that carries,
-- where `after` tells this time of the excursion's end
abbrev pub through : Carriers → List Line → ℕ → (ℕ → ℕ) → ℕ
through k [] n after = after n
through k (line ∷ lines) zero after = 0
through k (line ∷ lines) (suc n) after =
    line.delay_us + through k lines (left k line.entry (suc n)) after

-- the lines that resolve a collision in an entry's slot
abbrev pub resolving_lines : Parts → Entry → List Line
resolving_lines c (Event e) = table_of c (event_of c e).table
resolving_lines c entry = []

-- from the start of a main slot, where the longer way is taken
abbrev pub ahead_of : Parts → Carriers → Line → ℕ → (ℕ → ℕ) → ℕ
ahead_of c k line n after =
    line.delay_us
    + (if can_collide c line.entry
    then max (after (left k line.entry n)) (through k (resolving_lines c line.entry) n after)
    else after (left k line.entry n))

-- from the start of the slot of one of these lines, behind whose answer a write stands: the longest
abbrev pub longest_inside : Carriers → List Line → ℕ → (ℕ → ℕ) → ℕ
longest_inside k [] n after = 0
longest_inside k (line ∷ lines) n after =
    max (line.delay_us + through k lines n after) (longest_inside k lines n after)

-- from the start of a main slot, behind whose answer a write stands, or of a slot of the excursion
-- that it begins: the longest
abbrev pub longest_from : Parts → Carriers → Line → ℕ → (ℕ → ℕ) → ℕ
longest_from c k line n after =
    if can_collide c line.entry
    then max (line.delay_us + max (after n) (through k (resolving_lines c line.entry) n after))
    (longest_inside k (resolving_lines c line.entry) n after)
    else line.delay_us + after n

-- times ahead of the main slots of a table, for up to so many carrying slots
pub record AreTimesAhead (c : Parts) (t : ℕ) (k : Carriers) (most : ℕ) (times : ℕ → ℕ → ℕ) : Type 0 where
  pub done : (i : ℕ) → i < length (table_of c t) → times i 0 ≡ 0
  pub ahead : (i n : ℕ) → i < length (table_of c t) → 1 ≤ n → n ≤ most
      → times i n ≡ ahead_of c k (line_of c t i) n (times (next_entry (table_of c t) i))
