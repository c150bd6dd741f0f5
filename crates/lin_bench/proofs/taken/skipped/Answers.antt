use Rattle.std.proofs.Common.{◌≡◌, ◌∙◌, ap, arith, length, refl, sym, take}
use Rattle.std.specs.Prelude.{filter, slice_get}
use Rattle.std.proofs.lemmas.List.Sums.{length-filter}
use Rattle.lin_bench.specs.Verdicts.{is_of_kind}
use Rattle.lin_bench.proofs.Events.{kept-at}
use Rattle.lin_bench.proofs.taken.skipped.Goals as goal

pub returns-then-left-eq0 : goal.returns-then-left-eq0
returns-then-left-eq0 c =
    let kind = c.args.kind in
    let es = c.args.events.now in
    let i = c.loop-event.event-index in
    let n : c.args.skip ≡ length (filter (is_of_kind kind) (take i es)) = omega (arith, length-filter (is_of_kind kind) (take i es)) in
    (ap (slice_get (filter (is_of_kind kind) es)) n ∙ kept-at (is_of_kind kind) es i c.event-item.result (omega arith) c.event-item.is (sym c.has.ensures ∙ c.if-has.true), refl)
