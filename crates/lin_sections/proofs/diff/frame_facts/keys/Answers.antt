use Rattle.std.proofs.Common.{◌≤◌, ◌∙◌, List, length, map, ap, subst}
use Rattle.lin_parts.specs.declared.description.Frame.{Frame}
use Rattle.lin_sections.specs.NewNames.{has_in, is_among, keyed_name}
use Rattle.lin_sections.specs.Renames.{all_frame_names, number_key}
use Rattle.lin_sections.specs.Things.{compared_data}
use Rattle.lin_sections.proofs.RenamedKinds.{all-alone}
use Rattle.lin_sections.proofs.diff.frame_facts.keys.Goals as goal

pub returns : goal.returns
returns c =
    let xs : List Frame = c.args.facts.now.ldf.description.now.frames in
    let le : length xs ≤ c.loop-frame.frame-index =
    subst (λ (ys : List Frame). length ys ≤ c.loop-frame.frame-index) c.frames-frame-items.ensures c.loop-frame-test.false in
    all-alone (λ (fs : List Frame). map (λ f. number_key f.name f.id) fs) (has_in c.in_ok-others.others.map) (all_frame_names (compared_data c.args.other.now.ldf))
    (map keyed_name c.loop-frame.keys.items) c.loop-frame.frame-index xs le
    (λ q. c.in_ok-others.ensures q ∙ ap (λ (fs : List Frame). is_among (map (λ f. f.name.text) fs) q) c.frames.ensures)
    c.loop-frame.invariant
