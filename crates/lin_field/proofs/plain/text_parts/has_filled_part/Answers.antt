use Rattle.std.proofs.Common.{◌∙◌, rules, tests}
use Rattle.std.proofs.lemmas.Iterator.{YieldsList-from_slice}
use Rattle.std.proofs.lemmas.Iterator.Search.{any_from_yields_List}
use Rattle.lin_field.specs.Plain.{is_filled_part}
use Rattle.lin_field.proofs.PlainParts.{any-borrowed}
use Rattle.lin_field.proofs.plain.text_parts.has_filled_part.Goals as goal

pub returns : goal.returns
returns c =
    any_from_yields_List (λ p. is_filled_part p.now) _ _ c.any.result c.any.ensures.ran
    (YieldsList-from_slice c.args.parts.now cc) (λ x b q k. search (rules, tests))
    ∙ any-borrowed is_filled_part c.args.parts.now
