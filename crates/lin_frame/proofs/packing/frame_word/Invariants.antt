use Rattle.std.proofs.Common.{◌≡◌, ◌<◌, ◌*◌, ℕ, true}
use Rattle.std.specs.List.{list_all}
use Rattle.lin_frame.specs.Frame.{bit}
use Rattle.lin_frame.specs.Bits.{all_apart, first_bit, frame_bit, lies_in}
use Rattle.lin_frame.proofs.PlacedBits.{bit_over}
use Rattle.lin_frame.proofs.packing.frame_word.Given as goal

-- what is left to place, over what is placed, gives the frame
abbrev pub invariant-loop-place : goal.invariant-loop-place
invariant-loop-place l = record {
  places_inside : list_all (lies_in (first_bit l.layout) (8 * l.layout.len)) l.place-iterator.a.rest.now ≡ true;
  places_apart : all_apart l.place-iterator.a.rest.now ≡ true;
  frame : (b : ℕ) → b < 64 → bit_over l.place-iterator.a.rest.now l.place-iterator.b.rest.now (bit l.word b) b ≡ frame_bit l.layout l.values b;
}
