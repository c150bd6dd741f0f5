-- Findings 5, bad size, and 8, bad initial value (LIN 2.2A, sections 9.2.3 and 9.2.4.1).
use Rattle.std.specs.Prelude.{ℕ, ◌/◌, ◌%◌, ◌^◌, List, length, Bool, true, false, not, if◌then◌else◌}
use Rattle.std.specs.Prelude.{◌==◌, ◌&&◌, nat_lt, nat_le}
use Rattle.std.specs.List.{list_any}
use Rattle.lin_cluster.specs.FindingsNames.{at_number, at_place, when}
use Rattle.lin_cluster.specs.declared.finding.FindingKind.TheVariants.{BadSize, BadInit}
use Rattle.lin_cluster.specs.declared.finding.Finding.{Finding}
use Rattle.lin_parts.specs.declared.description.Frame.{Frame}
use Rattle.lin_parts.specs.declared.description.Init.{Init}
use Rattle.lin_parts.specs.declared.description.Init.TheVariants.{Scalar, Array}
use Rattle.lin_parts.specs.declared.description.Signal.{Signal}
use Rattle.lin_parts.specs.declared.place.Location.{Location}

-- ---- 5 BadSize

abbrev pub is_array_init : Init → Bool
is_array_init (Scalar n) = false
is_array_init (Array place items) = true

-- 1 to 16 bits; for an array 8, 16, .. 64
abbrev pub is_good_size : Signal → Bool
is_good_size s =
    if is_array_init s.init then nat_le 8 s.size.value && nat_le s.size.value 64 && s.size.value % 8 == 0
    else nat_le 1 s.size.value && nat_le s.size.value 16

abbrev pub bad_signal_size : Signal → List Finding
bad_signal_size s = when (not (is_good_size s)) (at_number BadSize s.size)

-- 1 to 8 bytes
abbrev pub is_frame_size : ℕ → Bool
is_frame_size n = nat_le 1 n && nat_le n 8

abbrev pub bad_frame_size : Frame → List Finding
bad_frame_size f = when (not (is_frame_size f.size.value)) (at_number BadSize f.size)

-- ---- 8 BadInit: of a signal of good size

-- below 2^size; for an array a byte for each 8 bits
abbrev pub is_good_init : ℕ → Init → Bool
is_good_init size (Scalar n) = nat_lt n.value (2 ^ size)
is_good_init size (Array place items) =
    length items == size / 8 && not (list_any (λ n. nat_lt 255 n.value) items)

-- the first token of an initial value
abbrev pub init_place : Init → Location
init_place (Scalar n) = record { line = n.line; column = n.column }
init_place (Array place items) = place

abbrev pub bad_init : Signal → List Finding
bad_init s =
    when (is_good_size s && not (is_good_init s.size.value s.init))
    (at_place BadInit (init_place s.init))
