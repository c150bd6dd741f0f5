use Rattle.std.proofs.Common.{◌≡◌, ◌∙◌, ◌<◌, ◌≤◌, ℕ, cond, List, length, get_or, map, take, ap, sym, subst}
use Rattle.std.specs.Prelude.{filter, fold}
use Rattle.std.specs.Str.{bytes_eq}
use Rattle.std.proofs.Math.Path.{fun_ext}
use Rattle.std.proofs.lemmas.List.{take_all}
use Rattle.lin_parts.specs.declared.description.PlacedSignal.{PlacedSignal}
use Rattle.lin_sections.specs.NewNames.{name_in, renames_data, RenamesData}
use Rattle.lin_sections.specs.Renames.{place_text}
use Rattle.lin_sections.specs.SignalPlaces.{ArePlacesOf}
use Rattle.lin_sections.specs.SortedTexts.{insert_text}
use Rattle.lin_sections.proofs.PlacesOfSignals.{placed-more}
use Rattle.lin_sections.proofs.diff.signal_facts.Places.add_frame.Goals as goal

pub loop-placed-preserved : goal.loop-placed-preserved
loop-placed-preserved c = λ names places are.
    let r : RenamesData = renames_data c.args.renames.now in
    let xs : List PlacedSignal = c.args.frame.now.placed in
    let i : ℕ = c.loop-placed.placed-index in
    let x : PlacedSignal = c.placed-item.result in
    let text_of : PlacedSignal → List ℕ = place_text (name_in r.frames c.args.frame.now.name.text) in
    let before : List ℕ → List (List ℕ) = λ q. fold insert_text (places q) (map text_of (filter (λ p. bytes_eq p.signal.text q) (take i xs))) in
    let lt : i < length xs = subst (λ (ys : List PlacedSignal). i < length ys) c.as_slice-placed-items.ensures c.loop-placed-test.true in
    let is : x ≡ get_or xs i x = c.placed-item.is ∙ ap (λ (ys : List PlacedSignal). get_or ys i x) c.as_slice-placed-items.ensures in
    let signal : c.as_slice-in-loop-placed.result.now ≡ (get_or xs i x).signal.text = c.as_slice-in-loop-placed.ensures ∙ ap (λ (p : PlacedSignal). p.signal.text) is in
    let named : c.of-name.result.now ≡ name_in r.frames c.args.frame.now.name.text = c.of-name.ensures ∙ ap (name_in r.frames) c.as_slice.ensures in
    let place : c.in_ok-place.place ≡ text_of (get_or xs i x) = c.in_ok-place.ensures ∙ (λ j. place_text (named j) (is j)) in
    subst (λ (f : List ℕ → List (List ℕ)). ArePlacesOf names f c.add.new.self)
    (fun_ext (λ q. (λ j. cond (bytes_eq (signal j) q) (insert_text (before q) (place j)) (before q))
    ∙ sym (placed-more (λ (p : PlacedSignal). bytes_eq p.signal.text q) text_of (places q) xs i x lt)))
    (c.in_ok-add.ensures names before (c.loop-placed.invariant names places are))

pub returns : goal.returns
returns c = λ names places are.
    let r : RenamesData = renames_data c.args.renames.now in
    let xs : List PlacedSignal = c.args.frame.now.placed in
    let i : ℕ = c.loop-placed.placed-index in
    let text_of : PlacedSignal → List ℕ = place_text (name_in r.frames c.args.frame.now.name.text) in
    let end : length xs ≤ i = subst (λ (ys : List PlacedSignal). length ys ≤ i) c.as_slice-placed-items.ensures c.loop-placed-test.false in
    subst (λ (f : List ℕ → List (List ℕ)). ArePlacesOf names f c.loop-placed.self)
    (fun_ext (λ q. ap (λ (ys : List PlacedSignal). fold insert_text (places q) (map text_of (filter (λ p. bytes_eq p.signal.text q) ys))) (take_all i xs end)))
    (c.loop-placed.invariant names places are)
