-- Findings 15, nested collision, and 16, empty table (LIN 2.2A, section 9.2.5).
use Rattle.std.specs.Prelude.{List, length, ◌==◌, false}
use Rattle.std.specs.List.{list_any}
use Rattle.std.specs.Option.{option_map_or}
use Rattle.lin_cluster.specs.FindingsNames.{at_name, when, table_named, is_event_entry}
use Rattle.lin_cluster.specs.Kinds.{finding_at}
use Rattle.lin_cluster.specs.declared.finding.FindingKind.TheVariants.{NestedCollision, EmptyTable}
use Rattle.lin_cluster.specs.declared.finding.Finding.{Finding}
use Rattle.lin_parts.specs.declared.description.Description.{Description}
use Rattle.lin_parts.specs.declared.description.EventFrame.{EventFrame}
use Rattle.lin_parts.specs.declared.description.Table.{Table}

-- ---- 15 NestedCollision: the resolving table has an event-triggered entry

abbrev pub nested_at : Description → EventFrame → List Finding
nested_at d e =
    when (option_map_or (λ t. list_any (is_event_entry d) t.entries) (table_named d e.table) false)
    (at_name NestedCollision e.table)

-- ---- 16 EmptyTable

abbrev pub empty_table : Table → List Finding
empty_table t = when (length t.entries == 0) (at_name EmptyTable t.name)

-- that there is no table
abbrev pub no_table : Description → List Finding
no_table d = when (length d.tables == 0) (finding_at EmptyTable 1 1)
