use Rattle.std.proofs.Common.{◌∙◌, ap, length}
use Rattle.lin_bench.proofs.CountedValues.{counted}
use Rattle.lin_bench.proofs.meant.MeantValues.count.Goals as goal

pub returns : goal.returns
returns c =
    let raws = c.self.inside.raws.value in
    (rw c.as_ref.ensures at c.count.ensures.count) ∙ counted raws (rw c.as_ref.ensures at c.count.ensures.once) c.self.invariant ∙ ap length c.self.view_is
