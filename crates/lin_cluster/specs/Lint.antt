-- Warnings 51 to 59 and 61 to 64, of a description in which nothing is wrong: what is declared and not used, and
-- what LIN asks for though a cluster runs without it (LIN 2.2A, section 9.2).
use Rattle.std.specs.Prelude.{ℕ, ◌%◌, List, [], ◌++◌, length, Option, Some, None, Bool, true, false}
use Rattle.std.specs.Prelude.{not, ◌==◌, ◌&&◌, ◌||◌, flat_map, if◌then◌else◌}
use Rattle.std.specs.Prelude.{IsPermutation, IsSorted, codes, nat_eq}
use Rattle.std.specs.List.{starts_with}
use Rattle.std.specs.Option.{option_map_or}
use Rattle.lin_cluster.specs.Findings.{finding_cmp}
use Rattle.lin_cluster.specs.FindingsNames.{at_name, at_number, when, same_name, is_node}
use Rattle.lin_cluster.specs.FindingsNames.{carries_frame, signal_named, table_named}
use Rattle.lin_cluster.specs.LintNames.{is_placed, is_member_name, is_scheduled, is_of_text}
use Rattle.lin_cluster.specs.LintNames.{has_diagnostics, is_addressed, processes, has_entry, is_frame}
use Rattle.lin_cluster.specs.LintNames.{has_event_of, has_sporadic_of, is_resolving}
use Rattle.lin_cluster.specs.declared.finding.Finding.{Finding}
use Rattle.lin_cluster.specs.declared.finding.FindingKind.TheVariants.{UnplacedSignal, UnusedFrame}
use Rattle.lin_cluster.specs.declared.finding.FindingKind.TheVariants.{UnscheduledFrame}
use Rattle.lin_cluster.specs.declared.finding.FindingKind.TheVariants.{NoSubscriber, OwnSubscriber}
use Rattle.lin_cluster.specs.declared.finding.FindingKind.TheVariants.{OffTimeBase, NoAddress}
use Rattle.lin_cluster.specs.declared.finding.FindingKind.TheVariants.{BadResponseError}
use Rattle.lin_cluster.specs.declared.finding.FindingKind.TheVariants.{BadConfigurable}
use Rattle.lin_cluster.specs.declared.finding.FindingKind.TheVariants.{EventMemberBeside}
use Rattle.lin_cluster.specs.declared.finding.FindingKind.TheVariants.{SporadicMemberBeside}
use Rattle.lin_cluster.specs.declared.finding.FindingKind.TheVariants.{UnresolvedMember}
use Rattle.lin_cluster.specs.declared.finding.FindingKind.TheVariants.{ResolvingEntry}
use Rattle.lin_cluster.specs.declared.lints.configurable.Configurable.{Configurable}
use Rattle.lin_parts.specs.declared.description.Attributes.{Attributes}
use Rattle.lin_parts.specs.declared.description.Description.{Description}
use Rattle.lin_parts.specs.declared.description.EventFrame.{EventFrame}
use Rattle.lin_parts.specs.declared.description.Frame.{Frame}
use Rattle.lin_parts.specs.declared.description.Name.{Name}
use Rattle.lin_parts.specs.declared.description.Signal.{Signal}
use Rattle.lin_parts.specs.declared.description.Sporadic.{Sporadic}
use Rattle.lin_parts.specs.declared.description.Table.{Table}
use Rattle.lin_parts.specs.declared.description.TableEntry.{TableEntry}

-- ---- 51 UnplacedSignal: no frame has the signal (section 9.2.4); by the names of those that one has

abbrev pub unplaced_signal : (List ℕ → Bool) → Signal → List Finding
unplaced_signal placed s = when (not (placed s.name.text)) (at_name UnplacedSignal s.name)

-- ---- 52 UnusedFrame: no table has the frame, and no sporadic or event-triggered frame lists it
-- (sections 9.2.4 and 9.2.5)

abbrev pub unused_frame : Description → Frame → List Finding
unused_frame d f =
    when (not (is_scheduled d f.name.text || is_member_name d f.name.text)) (at_name UnusedFrame f.name)

-- ---- 53 UnscheduledFrame: no table has the sporadic or event-triggered frame (section 9.2.5)

abbrev pub unscheduled_frame : Description → Name → List Finding
unscheduled_frame d n = when (not (is_scheduled d n.text)) (at_name UnscheduledFrame n)

abbrev pub unscheduled_sporadic : Description → Sporadic → List Finding
unscheduled_sporadic d f = unscheduled_frame d f.name

abbrev pub unscheduled_event : Description → EventFrame → List Finding
unscheduled_event d e = unscheduled_frame d e.name

-- ---- 54 NoSubscriber, 55 OwnSubscriber: a subscriber that publishes the signal itself (section
-- 9.2.3)

abbrev pub no_subscriber : Signal → List Finding
no_subscriber s = when (length s.subscribers == 0) (at_name NoSubscriber s.name)

abbrev pub own_subscriber : Name → Name → List Finding
own_subscriber publisher n = when (same_name n publisher) (at_name OwnSubscriber n)

-- ---- 56 OffTimeBase: a delay that is no multiple of the time base, where that isn't 0 (section
-- 9.2.5)

abbrev pub is_off : ℕ → ℕ → Bool
is_off base delay = not (base == 0) && not (delay % base == 0)

abbrev pub off_time_base : Description → TableEntry → List Finding
off_time_base d e =
    when (is_off d.time_base.value e.delay.value) (at_number OffTimeBase e.delay)

-- ---- 57 NoAddress: a responder without an address, where a table has a diagnostic frame (section
-- 9.2.2.2)

abbrev pub no_address : Description → Name → List Finding
no_address d n = when (has_diagnostics d && not (is_addressed d n.text)) (at_name NoAddress n)

-- ---- 58 BadResponseError: no signal of one bit that the node publishes (section 9.2.2.2). A node
-- of SAE J2602 may name its status byte too, whose upper three bits are the error state (J2602-1)

-- whether a node's attributes tell a version of SAE J2602
abbrev pub is_j2602 : Attributes → Bool
is_j2602 a = option_map_or (λ v. starts_with nat_eq v (codes "J2602")) a.protocol false

abbrev pub has_error_size : Attributes → ℕ → Bool
has_error_size a size = size == 1 || is_j2602 a && size == 8

abbrev pub is_response_error : Attributes → Signal → Bool
is_response_error a s = same_name s.publisher a.node && has_error_size a s.size.value

abbrev pub bad_error : Description → Attributes → Option Name → List Finding
bad_error d a None = []
bad_error d a (Some n) =
    when (not (option_map_or (is_response_error a) (signal_named d n) false))
    (at_name BadResponseError n)

abbrev pub bad_response_error : Description → Attributes → List Finding
bad_response_error d a = bad_error d a a.response_error

-- ---- 59 BadConfigurable: no frame of the node (section 9.2.2.2)

abbrev pub bad_configurable : Description → Name → Name → List Finding
bad_configurable d node n = when (not (processes d node n.text)) (at_name BadConfigurable n)

abbrev pub bad_configurables : Description → Configurable → List Finding
bad_configurables d c =
    if is_node d c.node then flat_map (bad_configurable d c.node) c.frames else []

-- ---- 61 EventMemberBeside, 62 SporadicMemberBeside: an entry for a frame, in a table that also has
-- an event-triggered or a sporadic frame that lists it (sections 2.3.3.2 and 2.3.3.3)

abbrev pub event_member_beside : Description → Table → TableEntry → List Finding
event_member_beside d t e =
    when (carries_frame e && has_event_of d t e.name.text) (at_name EventMemberBeside e.name)

abbrev pub sporadic_member_beside : Description → Table → TableEntry → List Finding
sporadic_member_beside d t e =
    when (carries_frame e && has_sporadic_of d t e.name.text) (at_name SporadicMemberBeside e.name)

-- ---- 63 UnresolvedMember: the table that resolves collisions, if it is declared, has no entry for a
-- member of the event-triggered frame (section 2.3.3.2)

abbrev pub unresolved_member : Option Table → Name → List Finding
unresolved_member t m =
    when (not (option_map_or (λ u. has_entry u m.text) t true)) (at_name UnresolvedMember m)

-- ---- 64 ResolvingEntry: an entry for no unconditional frame, in a table that resolves collisions
-- (section 2.3.3.2)

abbrev pub resolving_entry : Description → Table → TableEntry → List Finding
resolving_entry d t e =
    when (is_resolving d t && not (carries_frame e && is_frame d e.name.text))
    (at_name ResolvingEntry e.name)

-- ---- the warnings of each declaration

abbrev pub of_signal : (List ℕ → Bool) → Signal → List Finding
of_signal placed s =
    unplaced_signal placed s ++ no_subscriber s
    ++ flat_map (own_subscriber s.publisher) s.subscribers

abbrev pub of_event : Description → EventFrame → List Finding
of_event d v =
    unscheduled_event d v ++ flat_map (unresolved_member (table_named d v.table)) v.members

abbrev pub of_entry : Description → Table → TableEntry → List Finding
of_entry d t e =
    event_member_beside d t e ++ sporadic_member_beside d t e ++ resolving_entry d t e
    ++ off_time_base d e

abbrev pub of_table : Description → Table → List Finding
of_table d t = if is_of_text t then flat_map (of_entry d t) t.entries else []

-- ---- the warnings of a description, with the names of signals that frames outside of it have, and of
-- the configurable frames of its nodes

abbrev pub of_signals : Description → List Name → List Finding
of_signals d elsewhere = flat_map (of_signal (is_placed d elsewhere)) d.signals

abbrev pub of_frames : Description → List Finding
of_frames d =
    flat_map (unused_frame d) d.frames ++ flat_map (unscheduled_sporadic d) d.sporadic
    ++ flat_map (of_event d) d.events

abbrev pub of_nodes : Description → List Finding
of_nodes d = flat_map (no_address d) d.slaves ++ flat_map (bad_response_error d) d.attributes

abbrev pub lints : Description → List Name → List Configurable → List Finding
lints d elsewhere cs =
    of_signals d elsewhere ++ of_frames d ++ flat_map (of_table d) d.tables ++ of_nodes d
    ++ flat_map (bad_configurables d) cs

-- all of them, by line, then by column, then by number
pub record AreLints (d : Description) (elsewhere : List Name) (cs : List Configurable)
    (found : List Finding) : Type 0 where
  pub all : IsPermutation (lints d elsewhere cs) found
  pub ordered : IsSorted finding_cmp found
