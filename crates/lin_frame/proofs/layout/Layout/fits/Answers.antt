use Rattle.std.proofs.Common.{◌≡◌, true, List, [], ◌∷◌, length, ap, sym, ◌∙◌, refl, arith}
use Rattle.std.proofs.lemmas.Bool.{and_parts, false≢true, false_from_ne_true}
use Rattle.lin_frame.specs.Bits.{all_fit, fits_place}
use Rattle.lin_frame.specs.declared.layout.Place.{Place}
use Rattle.lin_frame.specs.declared.value.Value.{Value}
use Rattle.lin_frame.proofs.layout.Layout.fits.Goals as goal

length-all_fit : (ps : List Place) (vs : List Value) → all_fit ps vs ≡ true → length ps ≡ length vs
length-all_fit [] [] h = refl
length-all_fit [] (v ∷ vs) h = absurd (false≢true h)
length-all_fit (p ∷ ps) [] h = absurd (false≢true h)
length-all_fit (p ∷ ps) (v ∷ vs) h = let e = length-all_fit ps vs (and_parts (fits_place p v) (all_fit ps vs) h).1 in omega (arith, e)

pub returns-then-places-values : goal.returns-then-places-values
returns-then-places-values c =
    sym (false_from_ne_true (all_fit c.args.self.now.places c.args.values.now) (λ h.
    c.if-places-values.true (ap (λ (ps : List Place). length ps) c.as_slice-places.ensures ∙ length-all_fit c.args.self.now.places c.args.values.now h)))
