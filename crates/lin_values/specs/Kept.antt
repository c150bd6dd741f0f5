-- What is kept of the encodings of the signals of a cluster.
use Rattle.std.specs.Prelude.{◌≡◌, List, map, Some, None, option_and_then, slice_index_or}
use Rattle.lin_values.specs.Coded.{SignalCoding, CodedData}
use Rattle.lin_values.specs.declared.coded.Coded.TheInside.{Inside}
use Rattle.lin_values.specs.declared.coded.CodedSignal.{CodedSignal}
use Rattle.lin_values.specs.declared.codings.CodingType.{CodingType}

abbrev pub kept_signal : List CodingType → CodedSignal → SignalCoding
kept_signal ts s = record {
  bits = s.bits;
  is_array = s.is_array;
  is_wide = s.is_wide;
  encoding =
      option_and_then (λ n. slice_index_or (map (λ t. Some t) ts) n None) s.encoding;
}

-- a signal has the values that this one has
abbrev pub HasValuesAs : SignalCoding → CodedSignal → Type 0
HasValuesAs k s = (s.bits ≡ k.bits) × (s.is_array ≡ k.is_array) × (s.is_wide ≡ k.is_wide)

abbrev pub coded_data : Inside → CodedData
coded_data k = record { signals = map (kept_signal k.encodings) k.signals }
