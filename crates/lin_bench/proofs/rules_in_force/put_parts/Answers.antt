use Rattle.std.proofs.Common.{arith, refl, sym}
use Rattle.lin_text.proofs.Growing.{grows-more, grows-nothing, same-growth}
use Rattle.lin_bench.proofs.RulesInForce.{last-next, parts-next}
use Rattle.lin_bench.proofs.rules_in_force.put_parts.Goals as goal

pub loop-part-init : goal.loop-part-init
loop-part-init g c = record { put = grows-nothing c.args.out.now; last = refl }

pub loop-part-preserved : goal.loop-part-preserved
loop-part-preserved g c =
    let at = c.loop-part in
    record {
      put =
          same-growth (sym (parts-next c.args.parts.now at.part-index _ (omega arith)))
          (grows-more at.invariant.put (grows-more (rw at.invariant.last at c.put_gap.ensures) c.put_part.ensures));
      last = sym (last-next c.args.parts.now at.part-index _ (omega arith));
    }
