use Rattle.std.proofs.Common.{◌∙◌, ap}
use Rattle.lin_bench.specs.Meant.{is_among_values}
use Rattle.lin_bench.proofs.AllValues.{among}
use Rattle.lin_bench.proofs.meant.MeantValues.has.Goals as goal

pub returns : goal.returns
returns c =
    let raws = c.self.inside.raws.value in
    (rw c.as_ref.ensures at c.has.ensures) ∙ among raws c.args.value.now c.self.invariant ∙ ap (λ vs. is_among_values vs c.args.value.now) c.self.view_is
