-- How the times ahead of main slots are kept: in rows of one time for each main slot, which go back
-- from a slot `last` that each round passes only with a carrying slot; row n is for n of these.
use Rattle.std.specs.Prelude.{◌≡◌, true, false, Option, MatchOption, ◌<◌, ◌≤◌, All, ℕ, zero, suc, ◌+◌, ◌-◌, ◌*◌, ◌/◌, ◌%◌, ◌&&◌, ◌||◌, not, max, Bool}
use Rattle.std.specs.Prelude.{nat_lt, nat_le, if◌then◌else◌, List, length, count_by, slice_index}
use Rattle.lin_parts.specs.Cluster.{table_of, line_of}
use Rattle.lin_parts.specs.declared.parts.Parts.{Parts}
use Rattle.lin_parts.specs.declared.parts.Line.{Line}
use Rattle.lin_parts.specs.declared.parts.Entry.{Entry}
use Rattle.lin_schedule.specs.Ahead.{ahead_of, longest_from, next_entry, resolving_lines}
use Rattle.lin_schedule.specs.Carriers.{Carriers, carries, can_collide}
use Rattle.lin_schedule.specs.declared.after.After.{After}

-- how many of these lines carry it
abbrev pub carriers_in : Carriers → List Line → ℕ
carriers_in k lines = count_by (λ line. carries k line.entry) lines

-- whether no walk passes an entry's slot, and an excursion that it begins, with no carrying slot
abbrev pub is_sure : Parts → Carriers → Entry → Bool
is_sure c k entry =
    carries k entry
    && (not (can_collide c entry) || nat_lt 0 (carriers_in k (resolving_lines c entry)))

-- the place of a main slot in a row, and the main slot at a place
abbrev pub back_from : ℕ → ℕ → ℕ → ℕ
back_from slots last i = if nat_le i last then last - i else last + slots - i

abbrev pub times_in : ℕ → ℕ → List ℕ → ℕ → ℕ → ℕ
times_in slots last times i n = slice_index times (n * slots + back_from slots last i)

-- the times ahead of the slot after main slot i
abbrev pub times_after : Parts → ℕ → ℕ → List ℕ → ℕ → ℕ → ℕ
times_after c t last times i =
    times_in (length (table_of c t)) last times (next_entry (table_of c t) i)

-- the same in an array of rows, by the place of the slot after
abbrev pub after_of : List ℕ → ℕ → ℕ → ℕ → ℕ
after_of times slots place n = slice_index times (n * slots + place)

-- rows of at most 1,024 places and 1,025 times each, whose times are of at most as many rounds as
-- there are times
pub record AreRows (times : List ℕ) (slots place : ℕ) : Type 0 where
  pub few_slots : slots ≤ 1024
  pub in_row : place < slots
  pub few : length times ≤ 1049600
  pub short : All (λ time. time ≤ length times * 1025000000000) times

-- these rows, and the times in them, as they are kept for one main slot
abbrev pub HasRows : After → Type 0
HasRows a = AreRows a.times.now a.slots a.place

abbrev pub after_by : After → ℕ → ℕ
after_by a = after_of a.times.now a.slots a.place

-- the first main slot that no walk passes without a carrying slot, or none
abbrev pub IsSureSlot : Parts → Carriers → ℕ → Option ℕ → Type 0
IsSureSlot c k t slot =
    MatchOption slot
    ((i : ℕ) → i < length (table_of c t) → is_sure c k (line_of c t i).entry ≡ false)
    (λ i. (i < length (table_of c t)) × (is_sure c k (line_of c t i).entry ≡ true))

-- the time that comes after these
abbrev pub next_time : Parts → Carriers → ℕ → ℕ → List ℕ → ℕ
next_time c k t last times =
    let slots = length (table_of c t)
    in let i = back_from slots last (length times % slots)
    in ahead_of c k (line_of c t i) (length times / slots) (times_after c t last times i)

-- the greatest of a number for each of the first n main slots
abbrev pub greatest : (ℕ → ℕ) → ℕ → ℕ
greatest f zero = 0
greatest f (suc n) = max (greatest f n) (f n)

-- the longest time from a main slot, or from a slot of an excursion that it begins
abbrev pub longest_of : Parts → Carriers → ℕ → ℕ → ℕ → List ℕ → ℕ → ℕ
longest_of c k t last n times i =
    longest_from c k (line_of c t i) n (times_after c t last times i)

-- and from all main slots
abbrev pub longest_in : Parts → Carriers → ℕ → ℕ → ℕ → List ℕ → ℕ
longest_in c k t last n times = greatest (longest_of c k t last n times) (length (table_of c t))
