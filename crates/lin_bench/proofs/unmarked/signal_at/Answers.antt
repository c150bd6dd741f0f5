use Rattle.std.proofs.Common.{◌≡◌, ◌∙◌, ap, arith, sym}
use Rattle.lin_bench.specs.Parts.{fields_of}
use Rattle.lin_bench.specs.Words.{last_signal}
use Rattle.lin_bench.proofs.SignalPlaces.{signal-before, signal-here}
use Rattle.lin_bench.proofs.unmarked.signal_at.Goals as goal

pub returns-then-branch-clause-at : goal.returns-then-branch-clause-at
returns-then-branch-clause-at c =
    sym (c.loop-at.invariant.same
    ∙ signal-here c.args.cluster.now (fields_of c.args.all) c.loop-at.at (omega arith) (sym c.in_ok-is_signal.ensures ∙ c.if-branch.true))

pub loop-at-preserved : goal.loop-at-preserved
loop-at-preserved c =
    let old = c.loop-at.invariant.within (omega arith) in
    record {
      within = λ h. omega (arith, old, h);
      same =
          c.loop-at.invariant.same
          ∙ signal-before c.args.cluster.now (fields_of c.args.all) c.loop-at.at (omega arith) (sym c.in_ok-is_signal.ensures ∙ c.if-branch.false);
    }

pub returns-clause-at : goal.returns-clause-at
returns-clause-at c =
    let zero : c.loop-at.at ≡ 0 = omega arith in
    sym (c.loop-at.invariant.same ∙ ap (last_signal c.args.cluster.now (fields_of c.args.all)) zero)
