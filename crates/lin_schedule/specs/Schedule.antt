-- Which entry of which schedule table is due (ISO 17987-3, schedule tables and event-triggered
-- frames).
use Rattle.std.specs.Prelude.{ℕ, suc, ◌+◌, ◌%◌, Bool, nat_lt, ◌==◌, if◌then◌else◌, List, [], ◌∷◌}
use Rattle.std.specs.Prelude.{length, take, sum_by, find, Option, Some, None}
use Rattle.std.specs.Option.{option_map_or, unwrap_or}
use Rattle.lin_frame.specs.Words.{numbers}
use Rattle.lin_parts.specs.Cluster.{event_of, table_of, line_of}
use Rattle.lin_parts.specs.declared.parts.Parts.{Parts}
use Rattle.lin_parts.specs.declared.parts.Line.{Line}
use Rattle.lin_parts.specs.declared.parts.Entry.{Entry}
use Rattle.lin_parts.specs.declared.parts.Entry.TheVariants.{Event}

-- the sum of the delays before entry k of a table, in microseconds
abbrev pub offset : List Line → ℕ → ℕ
offset table k = sum_by (λ line. line.delay_us) (take k table)

-- the sum of all delays of a table
abbrev pub total : List Line → ℕ
total table = sum_by (λ line. line.delay_us) table

-- what moves a schedule on: a slot, which was seen damaged or collided where `clash` says so, a
-- switch to a table, or a new start of the current table
pub data Move : Type 0 where
  Slot : (clash : Bool) → Move
  Switch : (table : ℕ) → Move
  Restart : Move

-- where a schedule stands: its table, the delays of the main slots since the origin, and, inside an
-- excursion, the resolving table and the place in it
pub record Standing : Type 0 where
  pub table : ℕ
  pub elapsed : ℕ
  pub excursion : Option (ℕ × ℕ)

-- the entry of a table that is due when t has passed since its start
abbrev pub entry_at : List Line → ℕ → ℕ
entry_at table t =
    unwrap_or (find (λ k. offset table k == t % total table) (numbers (length table))) 0

-- the due table and entry of a main slot
abbrev pub due_in_main : Parts → Standing → ℕ × ℕ
due_in_main c s = (s.table, entry_at (table_of c s.table) s.elapsed)

-- the due table and entry
abbrev pub due : Parts → Standing → ℕ × ℕ
due c s = unwrap_or s.excursion (due_in_main c s)

-- the due entry with its delay
abbrev pub due_line : Parts → Standing → Line
due_line c s = line_of c (due c s).0 (due c s).1

-- the resolving table of an event-triggered entry
abbrev pub resolving : Parts → Entry → Option ℕ
resolving c (Event e) = Some (event_of c e).table
resolving c entry = None

-- after a main slot: a clash on an event-triggered entry starts an excursion
abbrev pub after_main : Parts → Standing → Line → Bool → Standing
after_main c s line clash =
    record {
      table = s.table;
      elapsed = s.elapsed + line.delay_us;
      excursion =
          if clash then option_map_or (λ t. Some (t, 0)) (resolving c line.entry) None else None;
    }

-- after a slot of an excursion: it goes on to the resolving table's end
abbrev pub after_place : Parts → Standing → ℕ × ℕ → Standing
after_place c s place =
    record s {
      excursion = if nat_lt (suc place.1) (length (table_of c place.0))
          then Some (place.0, suc place.1) else None;
    }

-- where a schedule that opened with a table stands after these moves, the newest first
abbrev pub standing : Parts → ℕ → List Move → Standing
standing c opening [] = record { table = opening; elapsed = 0; excursion = None }
standing c opening (Switch t ∷ earlier) = record { table = t; elapsed = 0; excursion = None }
standing c opening (Restart ∷ earlier) =
    record { table = (standing c opening earlier).table; elapsed = 0; excursion = None }
standing c opening (Slot clash ∷ earlier) =
    let s : Standing = standing c opening earlier
    in option_map_or (after_place c s) s.excursion (after_main c s (due_line c s) clash)
