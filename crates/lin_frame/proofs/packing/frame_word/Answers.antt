use Rattle.std.proofs.Common.{◌≡◌, ℕ, ◌+◌, ◌-◌, ◌*◌, ◌≤◌, ◌&&◌, ◌⊎◌, inl, inr, true, if◌then◌else◌, nat_le, List, [], ◌∷◌, length, ap, sym, ◌∙◌, refl, arith}
use Rattle.std.specs.List.{list_all}
use Rattle.std.proofs.lemmas.Bool.{and_parts, leb-true}
use Rattle.lin_frame.specs.Frame.{bit}
use Rattle.lin_frame.specs.Bits.{all_apart, are_apart, covers, first_bit, has_good_size, lies_in, value_bit}
use Rattle.lin_frame.specs.declared.layout.Place.{Place}
use Rattle.lin_frame.specs.declared.value.Value.{Value}
use Rattle.lin_frame.proofs.PlacedBits.{bit_over, bit_over-put, frame_bit-over, good-parts}
use Rattle.lin_frame.proofs.packing.frame_word.Goals as goal

ends_in : (first end : ℕ) (p : Place) → lies_in first end p ≡ true → p.offset + p.size ≤ end
ends_in first end p h =
    leb-true (p.offset + p.size) end (and_parts (has_good_size p && nat_le first p.offset) (nat_le (p.offset + p.size) end) h).1

-- no place or no value is left
bit_over-end : (ps : List Place) (vs : List Value) (under b : ℕ) → (length ps ≡ 0) ⊎ (length vs ≡ 0) → bit_over ps vs under b ≡ under
bit_over-end [] vs under b h = refl
bit_over-end (p ∷ ps) [] under b h = refl
bit_over-end (p ∷ ps) (v ∷ vs) under b h = absurd (elim h [ inl e ↦ omega (arith, e) | inr e ↦ omega (arith, e) ])

pub loop-place-init : goal.loop-place-init
loop-place-init c =
    let parts = good-parts c.args.layout.now c.requires.good in
    let places : c.into_iter-place-iterator.result.a.rest.now ≡ c.args.layout.now.places = cc in
    let values : c.into_iter-place-iterator.result.b.rest.now ≡ c.args.values.now = cc in
    record {
      places_inside = ap (λ ps. list_all (lies_in (first_bit c.args.layout.now) (8 * c.args.layout.now.len)) ps) places ∙ parts.2;
      places_apart = ap (λ ps. all_apart ps) places ∙ parts.3;
      frame = λ b h.
          ap (λ ps. bit_over ps c.into_iter-place-iterator.result.b.rest.now (bit c.empty_frame-word.result b) b) places
          ∙ ap (λ vs. bit_over c.args.layout.now.places vs (bit c.empty_frame-word.result b) b) values
          ∙ ap (λ x. bit_over c.args.layout.now.places c.args.values.now x b) (c.empty_frame-word.ensures b h)
          ∙ frame_bit-over c.args.layout.now c.args.values.now b c.requires.good;
    }

pub put_bits-word-requires-clause-inside : goal.put_bits-word-requires-clause-inside
put_bits-word-requires-clause-inside c =
    let layout = c.args.layout.now in
    let step = c.in-Some.ensures.steps in
    let inside = ap (λ ps. list_all (lies_in (first_bit layout) (8 * layout.len)) ps) (sym step.0) ∙ c.loop-place.invariant.places_inside in
    let first = and_parts (lies_in (first_bit layout) (8 * layout.len) c.in-Some.place.now) (list_all (lies_in (first_bit layout) (8 * layout.len)) c.next.new.self.a.rest.now) inside in
    omega (arith, ends_in (first_bit layout) (8 * layout.len) c.in-Some.place.now first.0, (good-parts layout c.requires.good).1)

pub loop-place-preserved : goal.loop-place-preserved
loop-place-preserved c =
    let layout = c.args.layout.now in
    let step = c.in-Some.ensures.steps in
    let p = c.in-Some.place.now in
    let v = c.in-Some.value.now in
    let ps = c.next.new.self.a.rest.now in
    let vs = c.next.new.self.b.rest.now in
    let inside = ap (λ ps. list_all (lies_in (first_bit layout) (8 * layout.len)) ps) (sym step.0) ∙ c.loop-place.invariant.places_inside in
    let apart = ap (λ ps. all_apart ps) (sym step.0) ∙ c.loop-place.invariant.places_apart in
    let apart_parts = and_parts (list_all (are_apart p) ps) (all_apart ps) apart in
    record {
      places_inside = (and_parts (lies_in (first_bit layout) (8 * layout.len) p) (list_all (lies_in (first_bit layout) (8 * layout.len)) ps) inside).1;
      places_apart = apart_parts.1;
      frame = λ b h.
          let after : bit c.put_bits-word.result b ≡ (if covers p b then value_bit v (b - p.offset) else bit c.loop-place.word b) =
          c.put_bits-word.ensures b h ∙ ap (λ x. if covers p b then x else bit c.loop-place.word b) (c.word_of_value.ensures (b - p.offset) (omega arith)) in
          bit_over-put p v ps vs (bit c.loop-place.word b) (bit c.put_bits-word.result b) b apart_parts.0 after
          ∙ ap (λ qs. bit_over qs (v ∷ vs) (bit c.loop-place.word b) b) (sym step.0)
          ∙ ap (λ ws. bit_over c.loop-place.place-iterator.a.rest.now ws (bit c.loop-place.word b) b) (sym step.1)
          ∙ c.loop-place.invariant.frame b h;
    }

pub returns : goal.returns
returns c = λ b h.
    let ended : (length c.loop-place.place-iterator.a.rest.now ≡ 0) ⊎ (length c.loop-place.place-iterator.b.rest.now ≡ 0) =
    elim c.in-None.ensures.steps [ inl e ↦ inl e.1.0 | inr e ↦ inr e.1.0 ] in
    sym (bit_over-end c.loop-place.place-iterator.a.rest.now c.loop-place.place-iterator.b.rest.now (bit c.loop-place.word b) b ended)
    ∙ c.loop-place.invariant.frame b h
