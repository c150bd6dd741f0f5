-- Finding 1, unknown name: a name that has to be a node's, a signal's, a frame's or a table's, and
-- isn't (LIN 2.2A, section 9.2).
use Rattle.std.specs.Prelude.{List, is_none, not, ◌&&◌}
use Rattle.lin_cluster.specs.FindingsNames.{at_name, when, is_node, signal_named, table_named}
use Rattle.lin_cluster.specs.FindingsNames.{is_any_frame, carries_frame}
use Rattle.lin_cluster.specs.declared.finding.FindingKind.TheVariants.{UnknownName}
use Rattle.lin_cluster.specs.declared.finding.Finding.{Finding}
use Rattle.lin_parts.specs.declared.description.Description.{Description}
use Rattle.lin_parts.specs.declared.description.EventFrame.{EventFrame}
use Rattle.lin_parts.specs.declared.description.Name.{Name}
use Rattle.lin_parts.specs.declared.description.PlacedSignal.{PlacedSignal}
use Rattle.lin_parts.specs.declared.description.TableEntry.{TableEntry}

-- ---- 1 UnknownName

-- a name that has to be a node's: a publisher, a subscriber or that of a block of attributes
abbrev pub unknown_node : Description → Name → List Finding
unknown_node d n = when (not (is_node d n)) (at_name UnknownName n)

-- a member, which has to be a frame of one of the three kinds
abbrev pub unknown_member : Description → Name → List Finding
unknown_member d n = when (not (is_any_frame d n)) (at_name UnknownName n)

-- a signal of a frame
abbrev pub unknown_signal : Description → PlacedSignal → List Finding
unknown_signal d p = when (is_none (signal_named d p.signal)) (at_name UnknownName p.signal)

-- the table that resolves the collisions of an event-triggered frame
abbrev pub unknown_table : Description → EventFrame → List Finding
unknown_table d e = when (is_none (table_named d e.table)) (at_name UnknownName e.table)

-- an entry for a frame, which has to be one of the three kinds
abbrev pub unknown_entry : Description → TableEntry → List Finding
unknown_entry d e =
    when (carries_frame e && not (is_any_frame d e.name)) (at_name UnknownName e.name)
