use Rattle.std.proofs.Common.{◌∙◌, ap, arith, sym}
use Rattle.std.specs.Prelude.{not}
use Rattle.std.specs.List.{list_any}
use Rattle.std.proofs.lemmas.List.{drop_all}
use Rattle.lin_bench.specs.Strict.{tells_due}
use Rattle.lin_bench.proofs.Stricts.{told-next, untold-next}
use Rattle.lin_bench.proofs.strict.is_never_due.Goals as goal

pub returns-then-tells_due : goal.returns-then-tells_due
returns-then-tells_due c =
    sym (ap not (sym c.loop-index.invariant
    ∙ told-next c.args.node c.args.log.now.entries c.loop-index.index c.entry.result.now c.entry.ensures (omega arith)
    (sym c.tells_due.ensures ∙ c.if-tells_due.true)))

pub loop-index-preserved : goal.loop-index-preserved
loop-index-preserved c =
    untold-next c.args.node c.args.log.now.entries c.loop-index.index c.entry.result.now c.entry.ensures (omega arith)
    (sym c.tells_due.ensures ∙ c.if-tells_due.false)
    ∙ c.loop-index.invariant

pub returns : goal.returns
returns c =
    sym (ap not (sym c.loop-index.invariant
    ∙ ap (list_any (tells_due c.args.node)) (drop_all c.loop-index.index c.args.log.now.entries (omega arith))))
