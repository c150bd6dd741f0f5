use Rattle.std.proofs.Common.{◌∙◌, ap}
use Rattle.lin_bench.specs.Meant.{only_one, values_in}
use Rattle.lin_bench.proofs.CountedValues.{counted, is-only, not-one, only-is}
use Rattle.lin_bench.proofs.meant.MeantValues.only.Goals as goal

pub returns-then-count-eq1 : goal.returns-then-count-eq1
returns-then-count-eq1 c =
    let r = c.self.inside.raws.value in
    let once = rw c.as_ref-raws.ensures at c.count.ensures.once in
    let count = rw c.as_ref-raws.ensures at c.count.ensures.count in
    let one = rw c.as_ref-raws.ensures at c.only.ensures.one in
    let other = rw c.as_ref-raws.ensures at c.only.ensures.other in
    only-is r c.only.result c.count.result once c.self.invariant count c.if-count-eq1.true
    (is-only r c.only.result one other) ∙ ap only_one c.self.view_is

pub returns-else-count-eq1 : goal.returns-else-count-eq1
returns-else-count-eq1 c =
    let r = c.self.inside.raws.value in
    let once = rw c.as_ref-raws.ensures at c.count.ensures.once in
    let count = rw c.as_ref-raws.ensures at c.count.ensures.count in
    not-one (values_in r) c.count.result (count ∙ counted r once c.self.invariant) c.if-count-eq1.false ∙ ap only_one c.self.view_is
