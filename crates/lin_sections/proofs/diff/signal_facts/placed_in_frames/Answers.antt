use Rattle.std.proofs.Common.{◌≡◌, ◌∙◌, ◌<◌, ℕ, List, [], length, get_or, flat_map, map, take, ap, arith, subst, sym}
use Rattle.std.specs.Prelude.{filter, fold, not}
use Rattle.std.proofs.Math.Path.{fun_ext}
use Rattle.std.proofs.lemmas.Bool.{eqb-true}
use Rattle.lin_parts.specs.declared.description.Frame.{Frame}
use Rattle.lin_parts.specs.declared.description.Signal.{Signal}
use Rattle.lin_sections.specs.NewNames.{has_in, renames_data, RenamesData}
use Rattle.lin_sections.specs.Renames.{all_places, all_signal_names, places_in}
use Rattle.lin_sections.specs.SignalPlaces.{alone_names, ArePlacesOf}
use Rattle.lin_sections.specs.SortedTexts.{insert_text, sorted_texts}
use Rattle.lin_sections.specs.Things.{compared_data, ComparedData}
use Rattle.lin_sections.proofs.PlacesOfSignals.{frame-placed, of-none}
use Rattle.lin_sections.proofs.diff.signal_facts.placed_in_frames.Goals as goal

pub loop-frame-preserved : goal.loop-frame-preserved
loop-frame-preserved c =
    let r : RenamesData = renames_data c.args.renames.now in
    let names : List (List ℕ) = filter (λ n. not (has_in c.args.others.now.map n)) (all_signal_names (compared_data c.args.facts.now.ldf)) in
    let xs : List Frame = c.args.facts.now.ldf.description.now.frames in
    let i : ℕ = c.loop-frame.frame-index in
    let x : Frame = c.frame-item.result in
    let before : List ℕ → List (List ℕ) = λ q. sorted_texts (flat_map (places_in r q) (take i xs)) in
    let lt : i < length xs = subst (λ (ys : List Frame). i < length ys) c.frames-frame-items.ensures c.loop-frame-test.true in
    let is : x ≡ get_or xs i x = c.frame-item.is ∙ ap (λ (ys : List Frame). get_or ys i x) c.frames-frame-items.ensures in
    subst (λ (f : List ℕ → List (List ℕ)). ArePlacesOf names f c.add_frame.new.self)
    (fun_ext (λ q. ap (λ (f : Frame). fold insert_text (before q) (places_in r q f)) is ∙ frame-placed (places_in r q) xs i x lt))
    (c.in_ok-add_frame.ensures names before c.loop-frame.invariant)

pub returns-then-is_empty : goal.returns-then-is_empty
returns-then-is_empty c =
    let d : ComparedData = compared_data c.args.facts.now.ldf in
    let end : c.in_ok-places.places.all.len ≡ 0 = eqb-true c.in_ok-places.places.all.len 0 (sym c.is_empty.ensures ∙ c.if-is_empty.true) in
    let none : length c.in_ok-places.places.all.items ≡ 0 = omega (arith, end) in
    of-none (alone_names c.args.others.now (all_signal_names d)) (λ q. []) (all_places d (renames_data c.args.renames.now)) c.in_ok-places.places none
    (subst (λ (ss : List Signal). ArePlacesOf (alone_names c.args.others.now (map (λ s. s.name.text) ss)) (λ q. []) c.in_ok-places.places) c.signals.ensures c.in_ok-places.ensures)
