use Rattle.std.proofs.Common.{◌≡◌, ◌∙◌, ◌<◌, ◌≤◌, ℕ, Bool, List, [], length, get_or, flat_map, map, ap, sym, subst}
use Rattle.std.specs.Prelude.{filter, not}
use Rattle.lin_parts.specs.declared.description.Signal.{Signal}
use Rattle.lin_sections.specs.NewNames.{alone, has_in, is_among, keyed_name, renames_data, KeyedName, RenamesData}
use Rattle.lin_sections.specs.Renames.{all_places, signal_key, all_signal_names}
use Rattle.lin_sections.specs.Things.{compared_data, ComparedData}
use Rattle.lin_sections.proofs.FactSteps.{added-more, flat-kept}
use Rattle.lin_sections.proofs.PlacesOfSignals.{kept-among}
use Rattle.lin_sections.proofs.RenamedKinds.{all-alone}
use Rattle.lin_sections.proofs.diff.signal_facts.keys.Goals as goal

pub loop-signal-preserved : goal.loop-signal-preserved
loop-signal-preserved c =
    let r : RenamesData = renames_data c.args.renames.now in
    let d : ComparedData = compared_data c.args.facts.now.ldf in
    let others : List ℕ → Bool = has_in c.in_ok-others.others.map in
    let names : List (List ℕ) = filter (λ n. not (others n)) (all_signal_names d) in
    let xs : List Signal = d.description.signals in
    let i : ℕ = c.loop-signal.signal-index in
    let x : Signal = c.signal-item.result in
    let text_of : Signal → List ℕ = λ s. s.name.text in
    let keys_of : Signal → List KeyedName = λ s. signal_key s (all_places d r s.name.text) in
    let lt : i < length xs = subst (λ (ys : List Signal). i < length ys) c.signals-signal-items.ensures c.loop-signal-test.true in
    let is : x ≡ get_or xs i x = c.signal-item.is ∙ ap (λ (ys : List Signal). get_or ys i x) c.signals-signal-items.ensures in
    added-more (λ (ss : List Signal). alone others (flat_map keys_of ss)) (λ (s : Signal). alone others (keys_of s)) xs i x [] (map keyed_name c.loop-signal.keys.items) (map keyed_name c.add_key_if_alone.new.keys.items)
    (flat-kept (λ k. not (others k.name)) keys_of xs i x lt) is c.loop-signal.invariant
    (c.in_ok-add_key_if_alone.ensures names (all_places d r) c.in_ok-places.ensures
    (λ free. ap (λ (s : Signal). is_among names (text_of s)) is ∙ kept-among text_of others xs i x lt (ap (λ (s : Signal). others (text_of s)) (sym is) ∙ free)))

pub returns : goal.returns
returns c =
    let r : RenamesData = renames_data c.args.renames.now in
    let d : ComparedData = compared_data c.args.facts.now.ldf in
    let xs : List Signal = d.description.signals in
    let le : length xs ≤ c.loop-signal.signal-index =
    subst (λ (ys : List Signal). length ys ≤ c.loop-signal.signal-index) c.signals-signal-items.ensures c.loop-signal-test.false in
    all-alone (λ (ss : List Signal). flat_map (λ s. signal_key s (all_places d r s.name.text)) ss) (has_in c.in_ok-others.others.map) (all_signal_names (compared_data c.args.other.now.ldf))
    (map keyed_name c.loop-signal.keys.items) c.loop-signal.signal-index xs le
    (λ q. c.in_ok-others.ensures q ∙ ap (λ (ss : List Signal). is_among (map (λ s. s.name.text) ss) q) c.signals.ensures)
    c.loop-signal.invariant
