use Rattle.std.proofs.Common.{◌≤◌, ◌∙◌, List, length, map, ap, subst}
use Rattle.lin_parts.specs.declared.description.Sporadic.{Sporadic}
use Rattle.lin_sections.specs.NewNames.{has_in, is_among, keyed_name, renames_data, RenamesData}
use Rattle.lin_sections.specs.Renames.{all_sporadic_names, sporadic_key}
use Rattle.lin_sections.specs.Things.{compared_data}
use Rattle.lin_sections.proofs.RenamedKinds.{all-alone}
use Rattle.lin_sections.proofs.diff.frame_facts.sporadic_keys.Goals as goal

pub returns : goal.returns
returns c =
    let r : RenamesData = renames_data c.args.renames.now in
    let xs : List Sporadic = c.args.facts.now.ldf.description.now.sporadic in
    let le : length xs ≤ c.loop-sporadic.sporadic-index =
    subst (λ (ys : List Sporadic). length ys ≤ c.loop-sporadic.sporadic-index) c.sporadic-sporadic-items.ensures c.loop-sporadic-test.false in
    all-alone (λ (fs : List Sporadic). map (sporadic_key r) fs) (has_in c.in_ok-others.others.map) (all_sporadic_names (compared_data c.args.other.now.ldf))
    (map keyed_name c.loop-sporadic.keys.items) c.loop-sporadic.sporadic-index xs le
    (λ q. c.in_ok-others.ensures q ∙ ap (λ (fs : List Sporadic). is_among (map (λ f. f.name.text) fs) q) c.sporadic.ensures)
    c.loop-sporadic.invariant
