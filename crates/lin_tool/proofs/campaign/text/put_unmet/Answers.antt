use Rattle.std.proofs.Common.{◌++◌, ap, arith, flat_map, sym}
use Rattle.std.specs.Prelude.{codes}
use Rattle.std.specs.Fmt.{decimal}
use Rattle.std.proofs.lemmas.List.{take_all}
use Rattle.lin_text.proofs.Growing.{grows-more, grows-nothing, same-growth, texts-next}
use Rattle.lin_tool.proofs.campaign.text.put_unmet.Goals as goal

pub loop-line-init : goal.loop-line-init
loop-line-init g c = grows-nothing _

pub loop-line-preserved : goal.loop-line-preserved
loop-line-preserved g c =
    same-growth (sym (texts-next (λ n. codes " " ++ decimal n) c.args.lines.now c.loop-line.line-index _ (omega arith))) (grows-more c.loop-line.invariant c.put_numbered.ensures)

pub returns : goal.returns
returns g c =
    grows-more c.put_number.ensures
    (grows-more (rw c.unmet_words.ensures at c.put_text.ensures)
    (same-growth (ap (flat_map (λ n. codes " " ++ decimal n)) (take_all c.loop-line.line-index c.args.lines.now (omega arith))) c.loop-line.invariant))
