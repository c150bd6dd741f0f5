-- Packing and unpacking undo each other.
use Rattle.std.specs.Prelude.{◌≡◌, ℕ, ◌*◌, ◌<◌, IsTrue, if◌then◌else◌, List, [], ◌++◌, map}
use Rattle.std.specs.List.{list_all, list_any}
use Rattle.lin_frame.specs.Bits.{all_fit, covers, data_bit, frame_bit, is_good_layout, has_bytes}
use Rattle.lin_frame.specs.Bits.{packed_bytes, unpacked_value}
use Rattle.lin_frame.specs.declared.layout.Layout.{Layout}
use Rattle.lin_frame.specs.declared.value.Value.{Value}

-- the values that were packed are unpacked again, whatever stands after the data bytes
abbrev pub UnpackingUndoesPacking : Type 0
UnpackingUndoesPacking =
    (layout : Layout) (values : List Value) (after : List ℕ) →
    IsTrue (is_good_layout layout) →
    IsTrue (all_fit layout.places values) →
    IsTrue (list_all has_bytes values) →
    map (λ p. unpacked_value p (packed_bytes layout values ++ after)) layout.places ≡ values

-- what was unpacked is packed again: the same bits where a signal lies, elsewhere those of a frame
-- without signals
abbrev pub PackingUndoesUnpacking : Type 0
PackingUndoesUnpacking =
    (layout : Layout) (bytes : List ℕ) (b : ℕ) →
    IsTrue (is_good_layout layout) →
    b < 8 * layout.len →
    data_bit (packed_bytes layout (map (λ p. unpacked_value p bytes) layout.places)) b
    ≡ (if list_any (λ p. covers p b) layout.places then data_bit bytes b else frame_bit layout [] b)
