use Rattle.std.proofs.Common.{List, ap, ◌∙◌}
use Rattle.std.specs.Prelude.{◌||◌}
use Rattle.std.specs.List.{list_any}
use Rattle.std.specs.Str.{bytes_eq}
use Rattle.lin_cluster.specs.LintNames.{has_text, is_among_names}
use Rattle.lin_cluster.proofs.LintSets.{two_added}
use Rattle.lin_cluster.proofs.lints.signals.placed_signals.Goals as goal
use Rattle.lin_parts.specs.declared.description.Frame.{Frame}

pub returns : goal.returns
returns c = λ q.
    let none = has_text c.in_ok-names.names.names q in
    let one = has_text c.add_each.new.names.names q in
    let has = λ (f : Frame). list_any (λ p. bytes_eq p.signal.text q) f.placed in
    two_added none one (has_text c.add_each-2.new.names.names q) (list_any has c.args.description.now.frames) (is_among_names c.args.placed_elsewhere.now q)
    (c.in_ok-names.ensures q)
    (c.in_ok-add_each.ensures q ∙ ap (λ (fs : List Frame). none || list_any has fs) c.frames.ensures)
    (c.in_ok-add_each-2.ensures q)
