use Rattle.std.proofs.Common.{◌≡◌, ◌∙◌, ◌++◌, ◌∷◌, [], Some, None, ap}
use Rattle.std.specs.Option.{option_map_or}
use Rattle.std.proofs.lemmas.Result.{on_ok_weaker}
use Rattle.lin_sections.specs.Differences.{differences_data, entry_difference, entry_with_id, is_moved_in, old_places, pair_differences}
use Rattle.lin_sections.specs.Numbering.{entry_id}
use Rattle.lin_sections.proofs.diff.entry_pairs.add_old_entry.Goals as goal

pub returns-in-Some : goal.returns-in-Some
returns-in-Some c =
    let o = c.args.things.0.now in
    let n = c.args.things.1.now in
    let e = c.args.entry.now in
    let there : Some c.in-Some.other.now ≡ entry_with_id (entry_id e) n.entries =
    c.in-Some.ensures ∙ ap (λ t. entry_with_id t c.as_slice.result.now) c.id.ensures ∙ ap (entry_with_id (entry_id e)) c.as_slice.ensures in
    let moved : c.is_moved-is_moved.result ≡ is_moved_in o.entries n.entries e =
    c.is_moved-is_moved.ensures o.entries (old_places o.entries n.entries) c.requires.olds c.requires.moved in
    on_ok_weaker c.add_pair.result
    (λ done. done
    ∙ ap (λ m. differences_data c.args.found.now.items ++ pair_differences o n m e c.in-Some.other.now) moved
    ∙ ap (λ x. differences_data c.args.found.now.items
    ++ option_map_or (pair_differences o n (is_moved_in o.entries n.entries e) e) x (entry_difference o n e (Some e) None ∷ [])) there)
    c.add_pair.ensures
