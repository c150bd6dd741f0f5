use Rattle.std.proofs.Common.{◌≡◌, ◌∙◌, sym, arith}
use Rattle.std.proofs.lemmas.List.{take_all}
use Rattle.std.proofs.lemmas.Slice.Eq.{bytes_eq-Decides}
use Rattle.lin_log.proofs.fields.is_word.Goals as goal

pub returns : goal.returns
returns c =
    let f = c.args.field.now in
    let w = c.args.word.now in
    let same : f ≡ w = sym (take_all c.loop-at.at f (omega arith)) ∙ c.loop-at.invariant ∙ take_all c.loop-at.at w (omega arith) in
    sym ((bytes_eq-Decides f w).1 same)
