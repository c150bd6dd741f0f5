-- Where the order of the bytes of a signal matters (ISO 17987-3, signal mapping).
use Rattle.std.specs.Prelude.{ℕ, ◌+◌, ◌%◌, List, [], Bool, false, not, filter, flat_map, find}
use Rattle.std.specs.Prelude.{Option, Some, None, option_and_then, nat_lt, if◌then◌else◌}
use Rattle.std.specs.Option.{option_map_or}
use Rattle.lin_cluster.specs.FindingsNames.{at_number, same_name, when}
use Rattle.lin_cluster.specs.declared.finding.Finding.{Finding}
use Rattle.lin_cluster.specs.declared.finding.FindingKind.TheVariants.{ByteOrder}
use Rattle.lin_parts.specs.declared.description.Name.{Name}
use Rattle.lin_parts.specs.declared.description.PlacedSignal.{PlacedSignal}
use Rattle.lin_field.specs.Frames.{is_diagnostic_frame}
use Rattle.lin_field.specs.declared.loose.Loose.{Loose}
use Rattle.lin_field.specs.declared.loose.LooseFrame.{LooseFrame}
use Rattle.lin_field.specs.declared.loose.LooseInit.{LooseInit}
use Rattle.lin_field.specs.declared.loose.LooseInit.TheVariants.{Scalar, Array}
use Rattle.lin_field.specs.declared.loose.LooseSignal.{LooseSignal}

-- over the border of a byte
abbrev pub is_across : ℕ → ℕ → Bool
is_across offset size = nat_lt 8 (offset % 8 + size)

abbrev pub size_if_scalar : ℕ → LooseInit → Option ℕ
size_if_scalar size (Scalar n) = Some size
size_if_scalar size (Array place items) = None

-- the size of a scalar of this name; wide ones are scalars in the text
abbrev pub scalar_size : List LooseSignal → Name → Option ℕ
scalar_size signals n =
    option_and_then (λ s. size_if_scalar s.size.value s.init) (find (λ s. same_name s.name n) signals)

-- 25 ByteOrder
abbrev pub placed_order : List LooseSignal → PlacedSignal → List Finding
placed_order signals p =
    when (option_map_or (is_across p.offset.value) (scalar_size signals p.signal) false)
    (at_number ByteOrder p.offset)

abbrev pub frame_order : List LooseSignal → LooseFrame → List Finding
frame_order signals f = flat_map (placed_order signals) f.placed

abbrev pub byte_order : Loose → List Finding
byte_order l =
    if l.header.is_big_endian
    then flat_map (frame_order l.signals) (filter (λ f. not (is_diagnostic_frame f)) l.frames)
    else []
