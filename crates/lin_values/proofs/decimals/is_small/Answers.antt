use Rattle.std.proofs.Common.{◌∙◌, ◌^◌, ◌*◌, ◌-◌, ap, sym, nat_lt}
use Rattle.lin_values.proofs.Powers.{limit-in-units}
use Rattle.lin_values.proofs.ShortestDecimals.{size-of}
use Rattle.lin_values.proofs.decimals.is_small.Goals as goal

pub returns-clause-same : goal.returns-clause-same
returns-clause-same c =
    let d = c.args.d in
    let units = d.digits * 10 ^ (24 - d.places) in
    rw c.ten_to.ensures (limit-in-units d.digits d.places c.requires.0 ∙ ap (λ n. nat_lt n (10 ^ 33)) (sym (size-of d.negative units)))
