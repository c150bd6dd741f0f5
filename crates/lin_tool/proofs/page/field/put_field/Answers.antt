use Rattle.std.proofs.Common.{◌≡◌, ap, arith, flat_map, sym, take}
use Rattle.std.proofs.lemmas.Grind.{common_steps}
use Rattle.lin_text.proofs.Growing.{grows-more, same-growth, texts-next}
use Rattle.lin_tool.specs.PageFields.{page_byte}
use Rattle.lin_tool.proofs.page.field.put_field.Goals as goal

pub loop-byte-preserved : goal.loop-byte-preserved
loop-byte-preserved g c =
    same-growth (sym (texts-next page_byte c.args.text.now c.loop-byte.byte-index _ (omega arith))) (grows-more c.loop-byte.invariant c.put_escaped.ensures)

pub returns : goal.returns
returns g c =
    let whole : take c.loop-byte.byte-index c.args.text.now ≡ c.args.text.now = grind (arith, common_steps) in
    grows-more c.put_byte.ensures (same-growth (ap (flat_map page_byte) whole) c.loop-byte.invariant)
