use Rattle.std.proofs.Common.{◌∙◌, ◌≡◌, ◌-◌, ◌+◌, ap, arith, reverse, sym, take}
use Rattle.lin_log.specs.LastFinish.{before_last_finish}
use Rattle.lin_log.proofs.LastFinish.{finished-before, finished-here, newest-first}
use Rattle.lin_log.proofs.slot_ends.last_finish.Goals as goal

pub returns-then-finishes : goal.returns-then-finishes
returns-then-finishes c =
    let es = c.args.log.now.entries in
    let i = c.loop-left.left - 1 in
    let e = c.entry.result.now in
    let one : c.loop-left.left ≡ i + 1 = omega arith in (
      omega arith,
      c.loop-left.invariant.same ∙ ap (λ n. before_last_finish (reverse (take n es))) one
          ∙ ap before_last_finish (newest-first es i e (omega arith) c.entry.ensures)
          ∙ finished-here e (reverse (take i es)) (sym c.finishes.ensures ∙ c.if-finishes.true),
    )

pub loop-left-preserved : goal.loop-left-preserved
loop-left-preserved c =
    let es = c.args.log.now.entries in
    let i = c.loop-left.left - 1 in
    let e = c.entry.result.now in
    let one : c.loop-left.left ≡ i + 1 = omega arith in
    record {
      within = omega arith;
      same =
          c.loop-left.invariant.same ∙ ap (λ n. before_last_finish (reverse (take n es))) one
          ∙ ap before_last_finish (newest-first es i e (omega arith) c.entry.ensures)
          ∙ finished-before e (reverse (take i es)) (sym c.finishes.ensures ∙ c.if-finishes.false);
    }
