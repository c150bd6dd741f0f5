use Rattle.std.proofs.Common.{◌++◌, ap, ◌∙◌}
use Rattle.lin_values.proofs.NamedLines.{kind-same}
use Rattle.lin_values.proofs.coded.Declared.add_kind.Goals as goal

pub returns-in_ok-add_signal_warnings : goal.returns-in_ok-add_signal_warnings
returns-in_ok-add_signal_warnings c =
    let of = c.traits.ensures in
    c.in_ok-add_signal_warnings.ensures
    ∙ ap (λ fs. c.args.warned.now.items ++ fs) (kind-same c.in-Some.encoding.now _ c.traits.result c.args.signal c.args.name.now c.in-Some.ensures (record { numeric = of.numeric; range = of.range; greatest = of.greatest; first = of.first; second = of.second }))
