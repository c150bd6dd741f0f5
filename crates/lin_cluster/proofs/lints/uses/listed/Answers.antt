use Rattle.std.proofs.Common.{List, ap, ◌∙◌}
use Rattle.std.specs.Prelude.{◌||◌}
use Rattle.std.specs.List.{list_any}
use Rattle.lin_cluster.specs.LintNames.{has_text, is_among_names}
use Rattle.lin_cluster.proofs.LintSets.{two_added}
use Rattle.lin_cluster.proofs.lints.uses.listed.Goals as goal
use Rattle.lin_parts.specs.declared.description.EventFrame.{EventFrame}
use Rattle.lin_parts.specs.declared.description.Sporadic.{Sporadic}

pub returns : goal.returns
returns c = λ q.
    let d = c.args.description.now in
    let none = has_text c.in_ok-names.names.names q in
    let one = has_text c.add_each.new.names.names q in
    two_added none one (has_text c.add_each-2.new.names.names q) (list_any (λ (f : Sporadic). is_among_names f.members q) d.sporadic) (list_any (λ (e : EventFrame). is_among_names e.members q) d.events)
    (c.in_ok-names.ensures q)
    (c.in_ok-add_each.ensures q ∙ ap (λ (fs : List Sporadic). none || list_any (λ (f : Sporadic). is_among_names f.members q) fs) c.sporadic.ensures)
    (c.in_ok-add_each-2.ensures q ∙ ap (λ (es : List EventFrame). one || list_any (λ (e : EventFrame). is_among_names e.members q) es) c.events.ensures)
