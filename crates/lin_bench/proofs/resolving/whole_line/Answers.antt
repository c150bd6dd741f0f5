use Rattle.std.proofs.Common.{◌∙◌, ◌∷◌, ◌+◌, None, ap, sym}
use Rattle.lin_bench.specs.Fields.{maybe_text}
use Rattle.lin_bench.specs.Resolving.{lines_after}
use Rattle.lin_bench.specs.Written.{lines_of, written_after}
use Rattle.lin_bench.proofs.WrittenLines.{taken-first, taken-next, taken-whole}
use Rattle.lin_bench.proofs.resolving.whole_line.Goals as goal

pub loop-more-init : goal.loop-more-init
loop-more-init c = taken-first c.args.text.now _ _ c.first_line.ensures.lines c.first_line.ensures.shorter

pub loop-more-preserved : goal.loop-more-preserved
loop-more-preserved c =
    taken-next c.args.text.now c.loop-more.line.now c.first_line-in-Some.result.0.now c.in-Some.more.now c.loop-more.rest c.first_line-in-Some.result.1 c.loop-more.count
    c.loop-more.invariant c.in-Some.ensures c.first_line-in-Some.ensures.lines c.first_line-in-Some.ensures.shorter

pub returns-clause-whole : goal.returns-clause-whole
returns-clause-whole c = λ n.
    taken-whole c.args.text.now c.loop-more.line.now c.loop-more.rest c.loop-more.count c.loop-more.invariant (sym c.following.ensures ∙ ap maybe_text c.in_default.is) n
    ∙ ap (λ t. record { number = n; parts = lines_of t } ∷ written_after None (n + c.loop-more.count) (lines_after c.loop-more.rest)) (sym c.text_before.ensures)
