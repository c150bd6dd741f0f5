use Rattle.std.proofs.Common.{◌≡◌, ◌∙◌, ◌++◌, ◌∷◌, [], ◌<◌, ◌≤◌, ℕ, List, length, get_or, map, take, ap, arith, sym}
use Rattle.std.specs.Prelude.{min, zip}
use Rattle.std.proofs.lemmas.List.{get_or_default, map-append}
use Rattle.lin_frame.specs.declared.sums.SumKind.{SumKind}
use Rattle.lin_parts.specs.Cluster.{frame_of}
use Rattle.lin_parts.specs.declared.description.Frame.{Frame}
use Rattle.lin_parts.specs.declared.parts.SignalFrame.{SignalFrame}
use Rattle.lin_sections.specs.NewNames.{renames_data, RenamesData}
use Rattle.lin_sections.specs.Things.{compared_data, frame_thing, ComparedData}
use Rattle.lin_sections.specs.declared.diff.fact.Thing.{Thing}
use Rattle.lin_sections.proofs.FactSteps.{all-pairs, mapped-at, pair-more}
use Rattle.lin_sections.proofs.Found.{mapped-length}
use Rattle.lin_sections.proofs.diff.frame_facts.things.Goals as goal

pub loop-number-preserved : goal.loop-number-preserved
loop-number-preserved c =
    let r : RenamesData = renames_data c.args.renames.now in
    let d : ComparedData = compared_data c.args.facts.now.ldf in
    let of : Frame × SumKind → Thing = λ f. frame_thing d.description r f.0 f.1 in
    let xs : List Frame = d.description.frames in
    let ys : List SumKind = map (λ f. f.model) d.cluster.frames in
    let i : ℕ = c.loop-number.number in
    let x : Frame = c.index-frames-number.result in
    let fs : List SignalFrame = d.cluster.frames in
    let own : SignalFrame = frame_of d.cluster i in
    let y : SumKind = c.model.result in
    let size : length c.frames-frames.result.now ≡ length xs = ap (λ (fs : List Frame). length fs) c.frames-frames.ensures in
    let lt : i < length xs = omega arith in
    let within : i < length fs = omega arith in
    let few : i < length ys = omega (arith, mapped-length (λ (f : SignalFrame). f.model) fs) in
    let is : x ≡ get_or xs i x = c.index-frames-number.is ∙ ap (λ (fs : List Frame). get_or fs i x) c.frames-frames.ensures in
    let are : y ≡ get_or ys i y =
    c.model.ensures ∙ ap (λ (f : SignalFrame). f.model) (sym (get_or_default fs i own _ within))
    ∙ mapped-at (λ (f : SignalFrame). f.model) fs i own within ∙ get_or_default ys i _ y few in
    let made : c.in_ok-thing.field-0 ≡ of (get_or xs i x, get_or ys i y) =
    c.in_ok-thing.ensures ∙ (λ j. frame_thing (c.in_ok-looked_up.ensures.facts j).ldf.description.now (renames_data (c.in_ok-looked_up.ensures.renames j)) (is j) (are j)) in
    c.in_ok-push.ensures.items ∙ (λ j. c.loop-number.invariant j ++ made j ∷ [])
    ∙ sym (map-append of (take i (zip xs ys)) ((get_or xs i x, get_or ys i y) ∷ [])) ∙ ap (map of) (sym (pair-more xs ys i x y lt few))

pub returns : goal.returns
returns c =
    let r : RenamesData = renames_data c.args.renames.now in
    let d : ComparedData = compared_data c.args.facts.now.ldf in
    let ys : List SumKind = map (λ f. f.model) d.cluster.frames in
    let size : length c.frames-frames.result.now ≡ length d.description.frames = ap (λ (fs : List Frame). length fs) c.frames-frames.ensures in
    let count : length ys ≡ length d.cluster.frames = mapped-length (λ (f : SignalFrame). f.model) d.cluster.frames in
    let end : min (length d.description.frames) (length ys) ≤ c.loop-number.number = omega arith in
    c.loop-number.invariant ∙ ap (map (λ (f : Frame × SumKind). frame_thing d.description r f.0 f.1)) (all-pairs d.description.frames ys c.loop-number.number end)
