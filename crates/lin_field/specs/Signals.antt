-- Signals of a text of the field: wide scalars are arrays, initial values fit, and subscribers are
-- nodes (LIN 2.2A, section 9.2.3).
use Rattle.std.specs.Prelude.{ℕ, zero, suc, ◌/◌, ◌%◌, ◌^◌, ◌==◌, ◌&&◌, ◌||◌, List, [], ◌∷◌, ◌++◌}
use Rattle.std.specs.Prelude.{Bool, false, not, nat_le, filter, flat_map, map, if◌then◌else◌}
use Rattle.lin_cluster.specs.FindingsNames.{at_name, at_number, at_place, when}
use Rattle.lin_cluster.specs.declared.finding.Finding.{Finding}
use Rattle.lin_cluster.specs.declared.finding.FindingKind.TheVariants.{UnknownName, BadInit}
use Rattle.lin_cluster.specs.declared.finding.FindingKind.TheVariants.{WideSignal}
use Rattle.lin_parts.specs.declared.description.Init.{Init}
use Rattle.lin_parts.specs.declared.description.Init.TheVariants.{Scalar, Array}
use Rattle.lin_parts.specs.declared.description.Name.{Name}
use Rattle.lin_parts.specs.declared.description.Number.{Number}
use Rattle.lin_parts.specs.declared.description.Signal.{Signal}
use Rattle.lin_field.specs.Names.{is_loose_node}
use Rattle.lin_field.specs.declared.loose.LooseInit.{LooseInit}
use Rattle.lin_field.specs.declared.loose.LooseInit.TheVariants as loose
use Rattle.lin_field.specs.declared.loose.LooseNodes.{LooseNodes}
use Rattle.lin_field.specs.declared.loose.LooseSignal.{LooseSignal}
use Rattle.lin_field.specs.declared.loose.WideNumber.{WideNumber}

-- 24, 32, .. 64 bits: as a scalar an array
abbrev pub is_wide : ℕ → Bool
is_wide size = nat_le 24 size && (nat_le size 64 && size % 8 == 0)

abbrev pub is_narrow : ℕ → Bool
is_narrow size = nat_le 1 size && nat_le size 16

abbrev pub low_bits : ℕ → ℕ → ℕ
low_bits value size = value % 2 ^ size

-- of how many bits a scalar has the low ones: a number has 32
abbrev pub kept_bits : ℕ → ℕ
kept_bits size = if is_narrow size then size else 32

abbrev pub with_value : Number → ℕ → Number
with_value n value = record { value = value; line = n.line; column = n.column }

abbrev pub number_with_value : WideNumber → ℕ → Number
number_with_value n value = record { value = value; line = n.place.line; column = n.place.column }

-- so many bytes of a value, the lowest first, each at this number's place
abbrev pub bytes_from : WideNumber → ℕ → ℕ → List Number
bytes_from n value zero = []
bytes_from n value (suc count) =
    number_with_value n (value % 256) ∷ bytes_from n (value / 256) count

abbrev pub byte_numbers : WideNumber → ℕ → List Number
byte_numbers n count = bytes_from n n.value count

abbrev pub settled_init : ℕ → LooseInit → Init
settled_init size (loose.Scalar n) =
    if is_wide size then Array n.place (byte_numbers n (size / 8))
    else Scalar (number_with_value n (low_bits n.value (kept_bits size)))
settled_init size (loose.Array place items) = Array place items

-- whether a signal becomes an array because of its width
abbrev pub becomes_array : ℕ → LooseInit → Bool
becomes_array size (loose.Scalar n) = is_wide size
becomes_array size (loose.Array place items) = false

abbrev pub is_wide_signal : LooseSignal → Bool
is_wide_signal s = becomes_array s.size.value s.init

-- the names of those that do
abbrev pub wide_names : List LooseSignal → List Name
wide_names ss = map (λ s. s.name) (filter is_wide_signal ss)

-- 21 WideSignal at the size, 8 BadInit at a value that is too large
abbrev pub init_warnings : Number → LooseInit → List Finding
init_warnings size (loose.Scalar n) =
    when (is_wide size.value) (at_number WideSignal size)
    ++ when
    ((is_wide size.value || is_narrow size.value)
    && not (low_bits n.value size.value == n.value))
    (at_place BadInit n.place)
init_warnings size (loose.Array place items) = []

abbrev pub size_warnings : LooseSignal → List Finding
size_warnings s = init_warnings s.size s.init

-- 1 UnknownName of what is left out
abbrev pub unknown_loose_node : LooseNodes → Name → List Finding
unknown_loose_node nodes n = when (not (is_loose_node nodes n)) (at_name UnknownName n)

abbrev pub settled_signal : LooseNodes → LooseSignal → Signal
settled_signal nodes s = record {
  name = s.name;
  size = s.size;
  init = settled_init s.size.value s.init;
  publisher = s.publisher;
  subscribers = filter (is_loose_node nodes) s.subscribers;
}

abbrev pub signal_warnings : LooseNodes → LooseSignal → List Finding
signal_warnings nodes s = size_warnings s ++ flat_map (unknown_loose_node nodes) s.subscribers
