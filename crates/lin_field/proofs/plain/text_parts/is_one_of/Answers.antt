use Rattle.std.proofs.Common.{◌∙◌, rules, tests}
use Rattle.std.specs.Str.{bytes_eq}
use Rattle.std.proofs.lemmas.Iterator.{YieldsList-from_slice}
use Rattle.std.proofs.lemmas.Iterator.Search.{any_from_yields_List}
use Rattle.lin_field.proofs.PlainParts.{any-borrowed}
use Rattle.lin_field.proofs.plain.text_parts.is_one_of.Goals as goal

pub returns : goal.returns
returns c =
    any_from_yields_List (λ w. bytes_eq c.args.word.now w.now) _ _ c.any.result c.any.ensures.ran
    (YieldsList-from_slice c.args.words.now cc) (λ x b q k. search (rules, tests))
    ∙ any-borrowed (bytes_eq c.args.word.now) c.args.words.now
