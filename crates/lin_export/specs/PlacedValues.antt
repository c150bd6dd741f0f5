-- Values at the places of frames.
use Rattle.std.specs.Prelude.{ℕ, List, take}
use Rattle.lin_frame.specs.Bits.{unpacked_value}
use Rattle.lin_frame.specs.declared.layout.Place.{Place}
use Rattle.lin_frame.specs.declared.value.Value.{Value}

-- a signal with its value at its place in a response
abbrev pub placed_value : List ℕ → ℕ × Place → ℕ × Value
placed_value answer p = (p.0, unpacked_value p.1 (take 8 answer))
