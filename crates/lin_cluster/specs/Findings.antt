-- What is wrong with a description: what each condition finds, declaration by declaration, in the
-- order of the places.
use Rattle.std.specs.Prelude.{◌≡◌, ℕ, List, [], ◌++◌, All, flat_map, IsPermutation, IsSorted}
use Rattle.std.specs.List.{enumerate_from}
use Rattle.std.specs.declared.cmp.Ordering.{Ordering}
use Rattle.std.specs.Ordering.{nat_cmp, ordering_then}
use Rattle.lin_cluster.specs.Addresses.{bad_nads, nads_twice}
use Rattle.lin_cluster.specs.Identifiers.{bad_ids, ids_twice}
use Rattle.lin_cluster.specs.Overlaps.{overlap_at}
use Rattle.lin_cluster.specs.Places.{wrong_publisher_at, outside_at}
use Rattle.lin_cluster.specs.Sizes.{bad_signal_size, bad_frame_size, bad_init}
use Rattle.lin_cluster.specs.UnknownNames.{unknown_node, unknown_member, unknown_signal}
use Rattle.lin_cluster.specs.UnknownNames.{unknown_table, unknown_entry}
use Rattle.lin_cluster.specs.Limits.{long_delay, long_table, limits_passed}
use Rattle.lin_cluster.specs.Members.{bad_member_at, bad_sporadic_at, mixed_at}
use Rattle.lin_cluster.specs.Slots.{short_slot_at, zero_delay}
use Rattle.lin_cluster.specs.Tables.{nested_at, empty_table, no_table}
use Rattle.lin_cluster.specs.declared.finding.Finding.{Finding}
use Rattle.lin_parts.specs.declared.description.Attributes.{Attributes}
use Rattle.lin_parts.specs.declared.description.Description.{Description}
use Rattle.lin_parts.specs.declared.description.EventFrame.{EventFrame}
use Rattle.lin_parts.specs.declared.description.Frame.{Frame}
use Rattle.lin_parts.specs.declared.description.Name.{Name}
use Rattle.lin_parts.specs.declared.description.PlacedSignal.{PlacedSignal}
use Rattle.lin_parts.specs.declared.description.Signal.{Signal}
use Rattle.lin_parts.specs.declared.description.Sporadic.{Sporadic}
use Rattle.lin_parts.specs.declared.description.Table.{Table}
use Rattle.lin_parts.specs.declared.description.TableEntry.{TableEntry}

-- ---- the findings of each declaration

abbrev pub in_signal : Description → Signal → List Finding
in_signal d s =
    unknown_node d s.publisher ++ flat_map (unknown_node d) s.subscribers ++ bad_signal_size s
    ++ bad_init s

-- the signal with this number of those that a frame places
abbrev pub in_placed : Description → Frame → List PlacedSignal → ℕ × PlacedSignal → List Finding
in_placed d f placed ip =
    unknown_signal d ip.1 ++ wrong_publisher_at d f ip.1 ++ outside_at d f ip.1
    ++ overlap_at d placed ip

abbrev pub in_frame : Description → Frame → List Finding
in_frame d f =
    unknown_node d f.publisher ++ bad_frame_size f
    ++ flat_map (in_placed d f f.placed) (enumerate_from 0 f.placed)

-- a member of a sporadic frame
abbrev pub in_sporadic_member : Description → Name → List Finding
in_sporadic_member d m = unknown_member d m ++ bad_sporadic_at d m

abbrev pub in_sporadic : Description → Sporadic → List Finding
in_sporadic d f = flat_map (in_sporadic_member d) f.members

-- the member of an event-triggered frame with this number
abbrev pub in_event_member : Description → List Name → ℕ × Name → List Finding
in_event_member d members im =
    unknown_member d im.1 ++ bad_member_at d members im ++ mixed_at d members im.1

abbrev pub in_event : Description → EventFrame → List Finding
in_event d e =
    unknown_table d e ++ nested_at d e
    ++ flat_map (in_event_member d e.members) (enumerate_from 0 e.members)

abbrev pub in_attributes : Description → Attributes → List Finding
in_attributes d a = unknown_node d a.node

abbrev pub in_entry : Description → TableEntry → List Finding
in_entry d e = unknown_entry d e ++ short_slot_at d e ++ zero_delay e ++ long_delay e

abbrev pub in_table : Description → Table → List Finding
in_table d t = empty_table t ++ long_table t ++ flat_map (in_entry d) t.entries

-- ---- the findings of a description

-- the frames of the three kinds
abbrev pub in_frames : Description → List Finding
in_frames d =
    flat_map (in_frame d) d.frames ++ flat_map (in_sporadic d) d.sporadic
    ++ flat_map (in_event d) d.events

abbrev pub in_declarations : Description → List Finding
in_declarations d =
    flat_map (in_signal d) d.signals ++ in_frames d ++ flat_map (in_attributes d) d.attributes
    ++ flat_map (in_table d) d.tables

-- all but the findings of identifiers, which are of numbers alone
abbrev pub beside_ids : Description → List Finding
beside_ids d = in_declarations d ++ bad_nads d ++ nads_twice d ++ no_table d ++ limits_passed d

abbrev pub candidates : Description → List Finding
candidates d = bad_ids d ++ ids_twice d ++ beside_ids d

-- a description in which nothing is found
abbrev pub IsFree : Description → Type 0
IsFree d = candidates d ≡ []

-- a description in which nothing is found but slots that are too short (9)
abbrev pub HasOnlyShortSlots : Description → Type 0
HasOnlyShortSlots d = All (λ f. f.number ≡ 9) (candidates d)

-- by line, then by column, then by number
abbrev pub finding_cmp : Finding → Finding → Ordering
finding_cmp a b =
    ordering_then (nat_cmp a.line b.line)
    (ordering_then (nat_cmp a.column b.column)
    (ordering_then (nat_cmp a.number b.number) (nat_cmp a.needed_us b.needed_us)))

-- all that is found, in that order
pub record AreFindings (d : Description) (found : List Finding) : Type 0 where
  pub all : IsPermutation (candidates d) found
  pub ordered : IsSorted finding_cmp found
