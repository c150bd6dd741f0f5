use Rattle.std.proofs.Common.{◌<◌, ◌++◌, List, [], length, take, ap, sym, ◌∙◌, arith}
use Rattle.lin_sections.specs.Things.{first_type, first_types}
use Rattle.lin_values.specs.declared.codings.CodingType.{CodingType}
use Rattle.lin_sections.proofs.FirstTypes.{firsts-more}
use Rattle.lin_sections.proofs.diff.encoding_facts.first_types.Goals as goal

pub loop-number-preserved : goal.loop-number-preserved
loop-number-preserved c =
    let ts = c.args.types.now in
    let i = c.loop-number.number in
    let lt : i < length ts = omega arith in
    c.in_ok-add_first.ensures
    ∙ ap (λ (fs : List CodingType). fs ++ first_type (take i ts) c.index-types-number.result) c.loop-number.invariant
    ∙ ap (λ (t : CodingType). first_types [] (take i ts) ++ first_type (take i ts) t) c.index-types-number.is
    ∙ sym (firsts-more ts i c.index-types-number.result lt)
