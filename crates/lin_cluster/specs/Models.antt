-- Which frames have the classic checksum: those that a node of LIN 1.x sends or reads, since it
-- knows no other (LIN 2.2A, section 2.3.1.5).
use Rattle.std.specs.Prelude.{ℕ, List, Option, find, slice_get, codes, Bool, true, false}
use Rattle.std.specs.Prelude.{if◌then◌else◌, ◌&&◌, ◌||◌, nat_eq, option_and_then}
use Rattle.std.specs.List.{list_any, starts_with}
use Rattle.std.specs.Option.{option_map, option_map_or}
use Rattle.lin_frame.specs.declared.sums.SumKind.{SumKind}
use Rattle.lin_frame.specs.declared.sums.SumKind.TheVariants.{Classic, Enhanced}
use Rattle.lin_cluster.specs.FindingsNames.{same_name, is_node, signal_named, frame_named}
use Rattle.lin_parts.specs.declared.description.Attributes.{Attributes}
use Rattle.lin_parts.specs.declared.description.Description.{Description}
use Rattle.lin_parts.specs.declared.description.Frame.{Frame}
use Rattle.lin_parts.specs.declared.description.Name.{Name}
use Rattle.lin_parts.specs.declared.description.PlacedSignal.{PlacedSignal}
use Rattle.lin_parts.specs.declared.description.Signal.{Signal}

-- whether a version of the protocol is one of LIN 1.x
abbrev pub is_version_1 : List ℕ → Bool
is_version_1 version = starts_with nat_eq version (codes "1.")

abbrev pub tells_version_1 : Attributes → Bool
tells_version_1 a = option_map_or is_version_1 a.protocol false

-- whether any block of attributes tells one
abbrev pub has_version_1 : Description → Bool
has_version_1 d = list_any tells_version_1 d.attributes

-- the first block of attributes with this name
abbrev pub block_named : Description → Name → Option Attributes
block_named d n = find (λ a. same_name a.node n) d.attributes

-- a node whose attributes tell such a version (section 9.2.2.2)
abbrev pub is_lin_1 : Description → Name → Bool
is_lin_1 d n = option_map_or tells_version_1 (block_named d n) false && is_node d n

-- a signal that such a node subscribes
abbrev pub has_lin_1 : Description → Signal → Bool
has_lin_1 d s = list_any (is_lin_1 d) s.subscribers

abbrev pub carries_to_lin_1 : Description → PlacedSignal → Bool
carries_to_lin_1 d p = option_map_or (has_lin_1 d) (signal_named d p.signal) false

-- a frame whose publisher is such a node, or with a signal that such a node subscribes
abbrev pub is_classic : Description → Frame → Bool
is_classic d f = is_lin_1 d f.publisher || list_any (carries_to_lin_1 d) f.placed

abbrev pub frame_model : Description → Frame → SumKind
frame_model d f = if is_classic d f then Classic else Enhanced

-- the checksum model of what a name names, where that is a frame
abbrev pub model_named : Description → Name → Option SumKind
model_named d n = option_map (frame_model d) (frame_named d n)

-- that of the first of some members, where that is a frame
abbrev pub first_model : Description → List Name → Option SumKind
first_model d members = option_and_then (model_named d) (slice_get members 0)

-- whether two checksum models are not the same
abbrev pub differ : SumKind → SumKind → Bool
differ Classic Enhanced = true
differ Enhanced Classic = true
differ Classic Classic = false
differ Enhanced Enhanced = false
