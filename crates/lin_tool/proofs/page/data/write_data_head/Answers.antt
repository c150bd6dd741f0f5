use Rattle.std.proofs.Common.{◌∙◌, ◌∷◌, ◌++◌, [], ap, append_assoc, flat_map, rules, sym}
use Rattle.std.specs.Prelude.{codes}
use Rattle.lin_text.proofs.Growing.{grows-more, same-growth, text-written}
use Rattle.lin_tool.specs.PageFields.{page_byte}
use Rattle.lin_tool.proofs.page.data.write_data_head.Goals as goal

pub returns : goal.returns
returns g c =
    let put = same-growth
    (ap (λ l. codes "page 1" ++ 10 ∷ codes "file " ++ 34 ∷ l) (sym (append_assoc (flat_map page_byte c.args.file.now) (10 ∷ []) _)))
    (grows-more c.put_text.ensures
    (grows-more c.put_field.ensures (grows-more c.put_text-2.ensures (grows-more (rw c.speed.ensures.value at c.put_number.ensures) c.put_byte.ensures)))) in
    let same = sym (put.same ∙ c.new-out.ensures.same) in
    let written = text-written c.new-out.ensures put c.finish.ensures in
    search rules
