use Rattle.std.proofs.Common.{◌∙◌, sym, arith}
use Rattle.lin_bench.proofs.MostSpecific.{decided-there, same-there}
use Rattle.lin_bench.proofs.answers.is_below_pattern.Goals as goal
use Rattle.lin_bench.proofs.answers.is_below_pattern.Goals.{then-loop-place-test+else-rank_at, else-loop-place-test}

pub loop-place-preserved : goal.loop-place-preserved
loop-place-preserved c =
    let at = c.loop-place in
    let so = same-there c.args.pattern.now c.args.other.now at.place (at.invariant.within, at.invariant.other, at.invariant.same) (rw c.as_slice-end.ensures at c.loop-place-test.true)
    (sym c.rank_at.ensures ∙ c.if-rank_at.true ∙ c.rank_at-in-loop-place.ensures) in
    record { within = so.0; other = so.1; same = so.2 }

pub returns : goal.returns
returns c =
    let at = c.loop-place in
    rw (c.rank_at-2.ensures, c.rank_at-3.ensures)
    (decided-there c.args.pattern.now c.args.other.now at.place (at.invariant.within, at.invariant.other, at.invariant.same)
    (λ e. elim c.loop-place-test.branch [
      | then-loop-place-test+else-rank_at w ↦ absurd (w.if-rank_at.false (w.rank_at.ensures ∙ e ∙ sym w.rank_at-in-loop-place.ensures))
      | else-loop-place-test w ↦ (let k = rw c.as_slice-end.ensures at w.loop-place-test.false in omega (arith, k))
    ]))
