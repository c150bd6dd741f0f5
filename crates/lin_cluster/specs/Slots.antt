-- Findings 9, slot too short, and 10, zero delay (ISO 17987-3, frame slots; LIN 2.2A, section
-- 9.2.5).
use Rattle.std.specs.Prelude.{ℕ, ◌+◌, ◌-◌, ◌*◌, ◌/◌, List, [], ◌∷◌, max, fold, slice_get, Option}
use Rattle.std.specs.Prelude.{Some, None, is_some, Bool, not, if◌then◌else◌, ◌==◌, ◌&&◌, nat_lt}
use Rattle.std.specs.Prelude.{nat_le, option_and_then}
use Rattle.std.specs.List.{list_all}
use Rattle.std.specs.Option.{option_map_or}
use Rattle.lin_cluster.specs.FindingsNames.{at_name, at_number, when, frame_named, sporadic_named}
use Rattle.lin_cluster.specs.FindingsNames.{event_named, carries_frame}
use Rattle.lin_cluster.specs.Sizes.{is_frame_size}
use Rattle.lin_cluster.specs.declared.finding.FindingKind.TheVariants.{SlotTooShort, ZeroDelay}
use Rattle.lin_cluster.specs.declared.finding.Finding.{Finding}
use Rattle.lin_parts.specs.declared.description.Description.{Description}
use Rattle.lin_parts.specs.declared.description.Name.{Name}
use Rattle.lin_parts.specs.declared.description.TableEntry.{TableEntry}

-- ---- 9 SlotTooShort

-- the time in microseconds that a slot of n data bytes takes at most, with the jitter: 34 bits of
-- header and 10 for each data byte and the checksum, 1.4 times (ISO 17987-3, frame slots), rounded
-- up
abbrev pub needed_us : ℕ → ℕ → ℕ → ℕ
needed_us jitter speed n = jitter + (1400000 * (34 + 10 * (n + 1)) + (speed - 1)) / speed

abbrev pub is_speed : ℕ → Bool
is_speed speed = nat_le 1 speed && nat_le speed 20000

abbrev pub good_size : ℕ → Option ℕ
good_size size = if is_frame_size size then Some size else None

-- the size of a frame by its name, where that is a frame's and the size is good
abbrev pub frame_size : Description → Name → Option ℕ
frame_size d n = option_and_then (λ f. good_size f.size.value) (frame_named d n)

-- the greatest size of some members, where all are frames of good sizes
abbrev pub greatest_size : Description → List Name → Option ℕ
greatest_size d members =
    if list_all (λ m. is_some (frame_size d m)) members
    then Some (fold (λ n m. max n (option_map_or (λ k. k) (frame_size d m) 0)) 0 members) else None

-- the size of the first member
abbrev pub first_size : Description → List Name → Option ℕ
first_size d members = option_and_then (frame_size d) (slice_get members 0)

-- the data bytes that a slot for what this name names has to hold
abbrev pub needed_size : Description → Name → Option ℕ
needed_size d n =
    if is_some (frame_named d n) then frame_size d n
    else if is_some (sporadic_named d n)
    then option_and_then (λ f. greatest_size d f.members) (sporadic_named d n)
    else option_and_then (λ e. first_size d e.members) (event_named d n)

-- diagnostic and configuration entries have 8 data bytes
abbrev pub slot_size : Description → TableEntry → Option ℕ
slot_size d e = if carries_frame e then needed_size d e.name else Some 8

abbrev pub short_slot : ℕ → ℕ → TableEntry → Option ℕ → List Finding
short_slot jitter speed e None = []
short_slot jitter speed e (Some n) =
    if not (e.delay.value == 0) && is_speed speed && nat_lt e.delay.value (needed_us jitter speed n)
    then at_name (SlotTooShort (needed_us jitter speed n)) e.name ∷ []
    else []

abbrev pub short_slot_at : Description → TableEntry → List Finding
short_slot_at d e = short_slot d.jitter.value d.speed.value e (slot_size d e)

-- ---- 10 ZeroDelay

abbrev pub zero_delay : TableEntry → List Finding
zero_delay e = when (e.delay.value == 0) (at_number ZeroDelay e.delay)
