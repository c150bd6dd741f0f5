use Rattle.std.proofs.Common.{◌++◌, ◌∙◌, [], refl, sym, ap, append_assoc, flat_map}
use Rattle.lin_text.proofs.Growing.{grows-more, grows-nothing}
use Rattle.lin_field.specs.Plain.{attribute_text, parts}
use Rattle.lin_field.proofs.plain.put_attributes.Goals as goal

pub loop-part-init : goal.loop-part-init
loop-part-init g c = ([], grows-nothing c.args.out.now, refl)

pub loop-part-preserved : goal.loop-part-preserved
loop-part-preserved g c =
    let f = attribute_text c.args.source.now in
    let before = c.loop-part.invariant in
    let rest = flat_map f (parts c.in-Some.after.now) in (
      before.0 ++ f c.in-Some.part.now,
      grows-more before.1 c.put_attribute.ensures,
      before.2 ∙ ap (λ ps. before.0 ++ flat_map f ps) c.in-Some.ensures.0 ∙ sym (append_assoc before.0 (f c.in-Some.part.now) rest),
    )
