-- Findings 2, wrong publisher, and 6, signal outside: a signal in its frame (LIN 2.2A, section
-- 9.2.4.1).
use Rattle.std.specs.Prelude.{◌+◌, ◌*◌, ◌%◌, List, Bool, not, ◌==◌, ◌&&◌, ◌||◌, nat_lt, false}
use Rattle.std.specs.Option.{option_map_or}
use Rattle.lin_cluster.specs.FindingsNames.{at_name, at_number, when, same_name, is_node}
use Rattle.lin_cluster.specs.FindingsNames.{signal_named}
use Rattle.lin_cluster.specs.Sizes.{is_array_init}
use Rattle.lin_cluster.specs.declared.finding.FindingKind.TheVariants.{WrongPublisher}
use Rattle.lin_cluster.specs.declared.finding.FindingKind.TheVariants.{SignalOutside}
use Rattle.lin_cluster.specs.declared.finding.Finding.{Finding}
use Rattle.lin_parts.specs.declared.description.Description.{Description}
use Rattle.lin_parts.specs.declared.description.Frame.{Frame}
use Rattle.lin_parts.specs.declared.description.PlacedSignal.{PlacedSignal}
use Rattle.lin_parts.specs.declared.description.Signal.{Signal}

-- ---- 2 WrongPublisher: a signal and its frame have publishers that are nodes, and not the same

abbrev pub is_published_elsewhere : Description → Frame → Signal → Bool
is_published_elsewhere d f s =
    is_node d s.publisher && is_node d f.publisher && not (same_name s.publisher f.publisher)

abbrev pub wrong_publisher_at : Description → Frame → PlacedSignal → List Finding
wrong_publisher_at d f p =
    when (option_map_or (is_published_elsewhere d f) (signal_named d p.signal) false)
    (at_name WrongPublisher p.signal)

-- ---- 6 SignalOutside: it reaches beyond the frame's bits, or is an array and begins in the middle
-- of a byte

abbrev pub is_outside : Frame → PlacedSignal → Signal → Bool
is_outside f p s =
    nat_lt (8 * f.size.value) (p.offset.value + s.size.value)
    || (is_array_init s.init && not (p.offset.value % 8 == 0))

abbrev pub outside_at : Description → Frame → PlacedSignal → List Finding
outside_at d f p =
    when (option_map_or (is_outside f p) (signal_named d p.signal) false)
    (at_number SignalOutside p.offset)
