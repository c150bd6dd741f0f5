-- Schedule tables of a text of the field (LIN 2.2A, section 9.2.5), and the tables that
-- event-triggered frames name (LIN 2.0, section 2.3.3.2, for those that name none).
use Rattle.std.specs.Prelude.{List, [], ◌∷◌, ◌++◌, ◌-◌, ◌&&◌, Bool, false, not, map, filter}
use Rattle.std.specs.Prelude.{flat_map, find, drop, length, Option, Some, None, is_none}
use Rattle.std.specs.Prelude.{option_and_then, codes, nat_lt, if◌then◌else◌}
use Rattle.std.specs.List.{list_any}
use Rattle.std.specs.Option.{option_map_or}
use Rattle.std.specs.Str.{bytes_eq}
use Rattle.lin_cluster.specs.FindingsNames.{at_name, at_number, same_name, when}
use Rattle.lin_cluster.specs.declared.finding.Finding.{Finding}
use Rattle.lin_cluster.specs.declared.finding.FindingKind.TheVariants.{EmptyTable, NoTable, Rounded}
use Rattle.lin_parts.specs.declared.description.EventFrame.{EventFrame}
use Rattle.lin_parts.specs.declared.description.Name.{Name}
use Rattle.lin_parts.specs.declared.description.Number.{Number}
use Rattle.lin_parts.specs.declared.description.Table.{Table}
use Rattle.lin_parts.specs.declared.description.TableEntry.{TableEntry}
use Rattle.lin_field.specs.declared.loose.RoundedDecimal.{RoundedDecimal}
use Rattle.lin_field.specs.declared.loose.LooseEntry.{LooseEntry}
use Rattle.lin_field.specs.declared.loose.LooseEvent.{LooseEvent}
use Rattle.lin_field.specs.declared.loose.LooseTable.{LooseTable}

-- 22 Rounded
abbrev pub rounded_warnings : RoundedDecimal → List Finding
rounded_warnings d = when d.is_rounded (at_number Rounded d.number)

abbrev pub entry_rounded : LooseEntry → List Finding
entry_rounded e = rounded_warnings e.delay

abbrev pub plain_entry : LooseEntry → TableEntry
plain_entry e = record { name = e.name; has_group = e.has_group; delay = e.delay.number }

abbrev pub plain_table : LooseTable → Table
plain_table t = record { name = t.name; entries = map plain_entry t.entries }

abbrev pub is_filled : LooseTable → Bool
is_filled t = nat_lt 0 (length t.entries)

-- an empty table, in a text that has others
abbrev pub is_left_out : List LooseTable → LooseTable → Bool
is_left_out ts t = list_any is_filled ts && not (is_filled t)

abbrev pub kept_tables : List LooseTable → List Table
kept_tables ts = map plain_table (filter (λ t. not (is_left_out ts t)) ts)

-- 16 EmptyTable of one that is left out
abbrev pub table_warnings_of : List LooseTable → LooseTable → List Finding
table_warnings_of ts t =
    if is_left_out ts t then at_name EmptyTable t.name ∷ []
    else flat_map entry_rounded t.entries

abbrev pub table_warnings : List LooseTable → List Finding
table_warnings ts = flat_map (table_warnings_of ts) ts

-- ---- event-triggered frames

-- E.members, which no WORD is, at the frame's identifier
abbrev pub members_name : Name → Number → Name
members_name e id = record {
  text = e.text ++ codes ".members";
  line = id.line;
  column = id.column;
}

abbrev pub is_members_name : Name → Bool
is_members_name n = bytes_eq (drop (length n.text - 8) n.text) (codes ".members")

abbrev pub names_left_out : List LooseTable → Name → Bool
names_left_out ts n =
    option_map_or (is_left_out ts) (find (λ t. same_name t.name n) ts) false

-- the table that is named, where it isn't left out
abbrev pub kept_name : List LooseTable → Name → Option Name
kept_name ts n = if names_left_out ts n then None else Some n

abbrev pub kept_table_name : List LooseTable → Option Name → Option Name
kept_table_name ts table = option_and_then (kept_name ts) table

abbrev pub settled_event : List LooseTable → LooseEvent → EventFrame
settled_event ts e = record {
  name = e.name;
  table = option_map_or (λ n. n) (kept_table_name ts e.table) (members_name e.name e.id);
  id = e.id;
  members = e.members;
}

-- 20 NoTable, but in LIN 2.0 and before, where none has one
abbrev pub event_warnings : Bool → List LooseTable → LooseEvent → List Finding
event_warnings is_told ts e =
    when (is_told && is_none (kept_table_name ts e.table)) (at_number NoTable e.id)
