-- The times of slots in a text of the field (ISO 17987-3, frame slots).
use Rattle.std.specs.Prelude.{ℕ, ◌+◌, ◌-◌, ◌*◌, ◌/◌, ◌==◌, ◌&&◌, ◌||◌, List, [], ◌∷◌, ◌++◌}
use Rattle.std.specs.Prelude.{Bool, true, false, not, map, filter, flat_map, find, Option, Some, None, is_some}
use Rattle.std.specs.Prelude.{length, option_and_then, nat_le, if◌then◌else◌}
use Rattle.std.specs.List.{list_any}
use Rattle.std.specs.Option.{option_map, option_map_or}
use Rattle.lin_ldf.specs.Numbers.{number_in_limit}
use Rattle.lin_cluster.specs.FindingsNames.{at_number, same_name, frame_named, when}
use Rattle.lin_cluster.specs.Slots.{is_speed, needed_us, slot_size, short_slot_at}
use Rattle.lin_cluster.specs.declared.finding.Finding.{Finding}
use Rattle.lin_cluster.specs.declared.finding.FindingKind.TheVariants.{ZeroDelay}
use Rattle.lin_parts.specs.declared.description.Description.{Description}
use Rattle.lin_parts.specs.declared.description.EventFrame.{EventFrame}
use Rattle.lin_parts.specs.declared.description.Name.{Name}
use Rattle.lin_parts.specs.declared.description.Number.{Number}
use Rattle.lin_parts.specs.declared.description.Table.{Table}
use Rattle.lin_parts.specs.declared.description.TableEntry.{TableEntry}
use Rattle.lin_field.specs.Signals.{with_value}
use Rattle.lin_field.specs.Tables.{is_members_name}

-- ---- delays of 0

-- the time that finding 9 asks for, where it is known
abbrev pub asked_us : Description → TableEntry → Option ℕ
asked_us d e =
    option_and_then
    (λ n. if is_speed d.speed.value then Some (needed_us d.jitter.value d.speed.value n) else None)
    (slot_size d e)

abbrev pub rounded_up : ℕ → ℕ → ℕ
rounded_up us base = if base == 0 then us else (us + (base - 1)) / base * base

-- as a multiple of the time base, where a number can be it
abbrev pub rounded_delay : Description → TableEntry → Option ℕ
rounded_delay d e =
    option_and_then (λ us. number_in_limit (rounded_up us d.time_base.value)) (asked_us d e)

abbrev pub with_delay : TableEntry → Number → TableEntry
with_delay e delay = record { name = e.name; has_group = e.has_group; delay = delay }

abbrev pub timed_by : TableEntry → Option ℕ → TableEntry
timed_by e None = e
timed_by e (Some us) = with_delay e (with_value e.delay us)

abbrev pub timed_entry : Description → TableEntry → TableEntry
timed_entry d e = if e.delay.value == 0 then timed_by e (rounded_delay d e) else e

abbrev pub timed_table : Description → Table → Table
timed_table d t = record { name = t.name; entries = map (timed_entry d) t.entries }

abbrev pub timed_tables : Description → List Table → List Table
timed_tables d ts = map (timed_table d) ts

-- 10 ZeroDelay, where the time is known
abbrev pub delay_warnings : Description → TableEntry → List Finding
delay_warnings d e =
    when (e.delay.value == 0 && is_some (rounded_delay d e)) (at_number ZeroDelay e.delay)

abbrev pub timing_warnings : Description → List Table → List Finding
timing_warnings d ts = flat_map (λ t. flat_map (delay_warnings d) t.entries) ts

-- ---- tables of members (LIN 2.0, section 2.3.3.2)

-- the entries that name frames: those without a group
abbrev pub calls : List Table → List TableEntry
calls ts = flat_map (λ t. filter (λ e. not e.has_group) t.entries) ts

-- the delay of the first one that names this
abbrev pub first_delay : List Table → Name → Option Number
first_delay ts n = option_map (λ e. e.delay) (find (λ e. same_name e.name n) (calls ts))

abbrev pub entry_of_member : Name → Number → TableEntry
entry_of_member member delay = record { name = member; has_group = false; delay = delay }

-- a delay within its limit: of a slot whose time isn't known, since something else is wrong, so that
-- no more is found of it
abbrev pub longest_us : ℕ
longest_us = 1000000000

-- the member's own time
abbrev pub own_entry : Description → Number → Name → TableEntry
own_entry d id member =
    entry_of_member member
    (with_value id
    (option_map_or (λ us. us) (rounded_delay d (entry_of_member member (with_value id 0))) longest_us))

-- its frame's delay, where an entry names that with one
abbrev pub member_entry : Description → Number → Option Number → Name → TableEntry
member_entry d id None member = own_entry d id member
member_entry d id (Some delay) member =
    if delay.value == 0 then own_entry d id member else entry_of_member member delay

-- a slot without a frame
abbrev pub idle_entry : EventFrame → TableEntry
idle_entry e =
    record { name = e.table; has_group = true; delay = with_value e.id longest_us }

-- entries, and where there are none a slot without a frame
abbrev pub or_idle : EventFrame → List TableEntry → List TableEntry
or_idle e entries = entries ++ (if length entries == 0 then idle_entry e ∷ [] else [])

abbrev pub member_table_by : Description → Option Number → EventFrame → Table
member_table_by d delay e = record {
  name = e.table;
  entries =
      or_idle e
      (map (member_entry d e.id delay) (filter (λ m. is_some (frame_named d m)) e.members));
}

abbrev pub member_table : Description → List Table → EventFrame → Table
member_table d ts e = member_table_by d (first_delay ts e.name) e

abbrev pub member_tables : Description → List Table → List Table
member_tables d ts =
    map (member_table d ts) (filter (λ e. is_members_name e.table) d.events)

-- ---- the tables

abbrev pub has_no_delay : TableEntry → Bool
has_no_delay e = e.delay.value == 0

-- whether some table has a delay of 0, or the tables of members aren't none
abbrev pub is_timed : List EventFrame → List Table → Bool
is_timed events ts =
    list_any (λ e. is_members_name e.table) events
    || list_any (λ t. list_any has_no_delay t.entries) ts

-- the tables with times, and those of members after them
abbrev pub all_tables : Description → List Table → List Table
all_tables d ts = timed_tables d ts ++ member_tables d (timed_tables d ts)

-- ---- tight slots

-- the time of a frame by itself: 34 bits of header and 10 for each data byte and the checksum,
-- rounded up
abbrev pub nominal_us : ℕ → ℕ → ℕ
nominal_us speed n = (1000000 * (34 + 10 * (n + 1)) + (speed - 1)) / speed

abbrev pub is_possible : Description → TableEntry → Bool
is_possible d e =
    option_map_or (λ n. nat_le (nominal_us d.speed.value n) e.delay.value) (slot_size d e) false

-- 9 SlotTooShort, where the frame's own time fits
abbrev pub tight_slot : Description → TableEntry → List Finding
tight_slot d e = if is_possible d e then short_slot_at d e else []

abbrev pub tight_slots : Description → List Finding
tight_slots d = flat_map (λ t. flat_map (tight_slot d) t.entries) d.tables
