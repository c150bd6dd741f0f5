use Rattle.std.proofs.Common.{◌≡◌, ◌<◌, suc, length, drop, take, ◌++◌, ◌∷◌, ap, ◌∙◌, arith}
use Rattle.std.proofs.lemmas.List.{set_split}
use Rattle.lin_values.proofs.layers.join.Goals as goal

pub returns-then-end-at-2 : goal.returns-then-end-at-2
returns-then-end-at-2 c =
    let e : suc c.args.at ≡ c.args.end = omega arith in
    let lt : c.args.at < length c.args.covered.now.items = omega arith in
    set_split c.args.covered.now.items c.args.at c.args.whole lt ∙ ap (λ n. take c.args.at c.args.covered.now.items ++ c.args.whole ∷ drop n c.args.covered.now.items) e
