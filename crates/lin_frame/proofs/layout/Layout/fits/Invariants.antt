use Rattle.std.proofs.Common.{◌≡◌, length}
use Rattle.lin_frame.specs.Bits.{all_fit}
use Rattle.lin_frame.proofs.layout.Layout.fits.Given as goal

abbrev pub invariant-loop-place : goal.invariant-loop-place
invariant-loop-place l = record {
  same_length : length l.place-iterator.a.rest.now ≡ length l.place-iterator.b.rest.now;
  rest_decides : all_fit l.place-iterator.a.rest.now l.place-iterator.b.rest.now ≡ all_fit l.self.places l.values;
}
