use Rattle.std.proofs.Common.{◌∙◌, List, ap, sym, flat_map, arith}
use Rattle.std.specs.Borrow.{Bor}
use Rattle.std.proofs.lemmas.List.{take_all}
use Rattle.lin_ldf.specs.declared.token.Token.{Token}
use Rattle.lin_text.proofs.Growing.{grows-more, same-growth, texts-next}
use Rattle.lin_field.specs.Plain.{other_section}
use Rattle.lin_field.proofs.PlainWords.{lent-texts}
use Rattle.lin_field.proofs.plain.put_other_sections.Goals as goal

pub loop-part-preserved : goal.loop-part-preserved
loop-part-preserved g c =
    same-growth (sym (texts-next (λ (x : Bor (List Token)). other_section c.args.source.now x.now) c.args.parts.now c.loop-part.part-index _ (omega arith)))
    (grows-more c.loop-part.invariant c.put_other_section.ensures)

pub returns : goal.returns
returns g c =
    same-growth (ap (flat_map (λ (x : Bor (List Token)). other_section c.args.source.now x.now)) (take_all c.loop-part.part-index c.args.parts.now (omega arith)) ∙ lent-texts (other_section c.args.source.now) c.args.parts.now) c.loop-part.invariant
