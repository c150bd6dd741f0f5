use Rattle.std.proofs.Common.{◌++◌, ◌+◌, ◌<◌, ◌∷◌, [], ℕ, List, ap, arith, drop, length, map}
use Rattle.lin_text.proofs.Growing.{same-growth}
use Rattle.lin_export.proofs.Slots.{drop-next}
use Rattle.lin_tool.specs.Junit.{xml_text}
use Rattle.lin_tool.specs.Separated.{with_separators}
use Rattle.lin_tool.proofs.CampaignTexts.{marked-end, marked-next}
use Rattle.lin_tool.proofs.Remaining.{none-put, put-more, put-whole, same-rest}
use Rattle.lin_tool.proofs.junit.put_texts.Goals as goal

pub loop-text-init : goal.loop-text-init
loop-text-init g c = none-put c.args.out.now _

pub loop-text-preserved : goal.loop-text-preserved
loop-text-preserved g c =
    let ts = c.args.texts.now in
    let i = c.loop-text.text-index in
    let x = c.text-item.result in
    let other : List ℕ = 10 ∷ [] in
    let rest = with_separators other other (map xml_text (drop (i + 1) ts)) in
    let there : i < length ts = omega arith in
    let next = marked-next xml_text c.loop-text.mark.now other ts i x (drop-next ts i x c.text-item.is there) in
    put-more rest (put-more (xml_text x ++ rest) (same-rest next c.loop-text.invariant) c.put.ensures)
    (same-growth (ap xml_text c.as_slice.ensures) c.put_escaped.ensures)

pub returns : goal.returns
returns g c = put-whole (same-rest (marked-end xml_text c.loop-text.mark.now (10 ∷ []) c.args.texts.now c.loop-text.text-index (omega arith)) c.loop-text.invariant)
