-- What the names in a description name, and where findings stand. A name names the first
-- declaration that has it.
use Rattle.std.specs.Prelude.{List, ◌∷◌, [], codes, find, Option, is_some, Bool, not}
use Rattle.std.specs.Prelude.{if◌then◌else◌, ◌&&◌, ◌||◌}
use Rattle.std.specs.List.{list_any}
use Rattle.std.specs.Str.{bytes_eq}
use Rattle.lin_cluster.specs.Kinds.{finding_at}
use Rattle.lin_cluster.specs.declared.finding.Finding.{Finding}
use Rattle.lin_cluster.specs.declared.finding.FindingKind.{FindingKind}
use Rattle.lin_parts.specs.declared.description.Description.{Description}
use Rattle.lin_parts.specs.declared.description.EventFrame.{EventFrame}
use Rattle.lin_parts.specs.declared.description.Frame.{Frame}
use Rattle.lin_parts.specs.declared.description.Name.{Name}
use Rattle.lin_parts.specs.declared.description.Number.{Number}
use Rattle.lin_parts.specs.declared.description.Signal.{Signal}
use Rattle.lin_parts.specs.declared.description.Sporadic.{Sporadic}
use Rattle.lin_parts.specs.declared.description.Table.{Table}
use Rattle.lin_parts.specs.declared.description.TableEntry.{TableEntry}
use Rattle.lin_parts.specs.declared.place.Location.{Location}

-- ---- findings at places

abbrev pub at_name : FindingKind → Name → Finding
at_name kind n = finding_at kind n.line n.column

abbrev pub at_number : FindingKind → Number → Finding
at_number kind n = finding_at kind n.line n.column

abbrev pub at_place : FindingKind → Location → Finding
at_place kind p = finding_at kind p.line p.column

-- the finding, where the condition holds
abbrev pub when : Bool → Finding → List Finding
when b f = if b then f ∷ [] else []

-- ---- names

abbrev pub same_name : Name → Name → Bool
same_name a b = bytes_eq a.text b.text

-- the commander and the responders
abbrev pub is_node : Description → Name → Bool
is_node d n = same_name d.master n || list_any (λ m. same_name m n) d.slaves

-- a responder, which the commander's name is not
abbrev pub is_responder : Description → Name → Bool
is_responder d n = not (same_name d.master n) && list_any (λ m. same_name m n) d.slaves

abbrev pub signal_named : Description → Name → Option Signal
signal_named d n = find (λ s. same_name s.name n) d.signals

abbrev pub frame_named : Description → Name → Option Frame
frame_named d n = find (λ f. same_name f.name n) d.frames

abbrev pub sporadic_named : Description → Name → Option Sporadic
sporadic_named d n = find (λ f. same_name f.name n) d.sporadic

abbrev pub event_named : Description → Name → Option EventFrame
event_named d n = find (λ f. same_name f.name n) d.events

abbrev pub table_named : Description → Name → Option Table
table_named d n = find (λ t. same_name t.name n) d.tables

-- a frame, a sporadic frame or an event-triggered frame
abbrev pub is_any_frame : Description → Name → Bool
is_any_frame d n =
    is_some (frame_named d n) || is_some (sporadic_named d n) || is_some (event_named d n)

-- ---- entries of tables (LIN 2.2A, section 9.2.5)

abbrev pub is_diagnostic : Name → Bool
is_diagnostic n = bytes_eq n.text (codes "MasterReq") || bytes_eq n.text (codes "SlaveResp")

-- an entry for a frame of one of the three kinds, not a diagnostic one nor one for the
-- configuration of nodes
abbrev pub carries_frame : TableEntry → Bool
carries_frame e = not e.has_group && not (is_diagnostic e.name)

-- an entry for an event-triggered frame
abbrev pub is_event_entry : Description → TableEntry → Bool
is_event_entry d e =
    carries_frame e && not (is_some (frame_named d e.name))
    && not (is_some (sporadic_named d e.name)) && is_some (event_named d e.name)
