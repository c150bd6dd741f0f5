use Rattle.std.proofs.Common.{◌≡◌, ◌∙◌, ◌+◌, ◌++◌, ◌∷◌, [], ℕ, List, length, map, take, ap, subst, sym}
use Rattle.std.specs.Prelude.{not}
use Rattle.std.proofs.lemmas.List.{map-append, take_all}
use Rattle.lin_parts.specs.declared.description.Signal.{Signal}
use Rattle.lin_sections.specs.NewNames.{has_in}
use Rattle.lin_sections.specs.Numbering.{ArePlaces}
use Rattle.lin_sections.specs.SignalPlaces.{alone_names, without_places, ArePlacesOf}
use Rattle.lin_sections.proofs.FactSteps.{mapped-kept}
use Rattle.lin_sections.proofs.Found.{mapped-length}
use Rattle.lin_sections.proofs.PlacesOfSignals.{all-without}
use Rattle.lin_sections.proofs.diff.signal_facts.Places.new.Goals as goal

pub loop-signal-preserved : goal.loop-signal-preserved
loop-signal-preserved c =
    let text_of : Signal → List ℕ = λ s. s.name.text in
    let kept : List Signal → List (List ℕ) = λ ss. alone_names c.args.others.now (map text_of ss) in
    let i : ℕ = c.loop-signal.signal-index in
    let more : kept (take i c.args.signals.now) ++ alone_names c.args.others.now (c.as_slice.result.now ∷ []) ≡ kept (take (i + 1) c.args.signals.now) =
    ap (λ (t : List ℕ). kept (take i c.args.signals.now) ++ alone_names c.args.others.now (t ∷ [])) (c.as_slice.ensures ∙ ap text_of c.signal-item.is)
    ∙ sym (mapped-kept (λ n. not (has_in c.args.others.now.map n)) text_of c.args.signals.now i c.signal-item.result c.loop-signal-test.true) in
    let size : length c.loop-signal.places.all.items ≡ length (kept (take i c.args.signals.now)) =
    ap (λ ps. length ps) c.loop-signal.invariant.all ∙ mapped-length (λ (n : List ℕ). []) (kept (take i c.args.signals.now)) in
    record {
      numbers = subst (λ ns. ArePlaces ns c.add_alone.new.self.numbers.map) more (c.in_ok-add_alone.ensures.numbers (kept (take i c.args.signals.now)) size c.loop-signal.invariant.numbers);
      all = c.in_ok-add_alone.ensures.all
          ∙ ap (λ ps. ps ++ without_places (alone_names c.args.others.now (c.as_slice.result.now ∷ []))) c.loop-signal.invariant.all
          ∙ sym (map-append (λ (n : List ℕ). []) (kept (take i c.args.signals.now)) (alone_names c.args.others.now (c.as_slice.result.now ∷ [])))
          ∙ ap without_places more;
    }

pub returns : goal.returns
returns c =
    let text_of : Signal → List ℕ = λ s. s.name.text in
    subst (λ (ss : List Signal). ArePlacesOf (alone_names c.args.others.now (map text_of ss)) (λ q. []) c.loop-signal.places)
    (take_all c.loop-signal.signal-index c.args.signals.now c.loop-signal-test.false)
    (all-without (alone_names c.args.others.now (map text_of (take c.loop-signal.signal-index c.args.signals.now))) c.loop-signal.places c.loop-signal.invariant.numbers c.loop-signal.invariant.all)
