use Rattle.std.proofs.Common.{◌<◌, arith}
use Rattle.lin_cluster.proofs.FindingsRanges.{apart_without, merged_less, merged_more, lowest, highest}
use Rattle.lin_cluster.proofs.findings.ranges.merged.Goals as goal

pub loop-other-preserved : goal.loop-other-preserved
loop-other-preserved c =
    let without = c.remove.ensures.updates.0 in
    let met = c.in-Some.ensures.some in
    let low = lowest c.loop-other.first c.in-Some.other c.min-first.result c.min-first.ensures in
    let high = highest c.loop-other.after c.in-Some.last c.max-after.result c.max-after.ensures in
    let some : c.loop-other.first < c.loop-other.after = c.loop-other.invariant.some in
    record {
      apart = apart_without c.loop-other.ranges c.remove.new.self c.in-Some.other without c.loop-other.invariant.apart;
      some = omega (arith, low.0, high.0, some);
      same = λ a b ab.
          let before = c.loop-other.invariant.same a b ab in (
            λ covers. before.0 (merged_more c.loop-other.ranges c.remove.new.self c.in-Some.other c.in-Some.last c.loop-other.first c.loop-other.after c.min-first.result c.max-after.result a b without met.0 met.1 met.2 low.2 high.2 ab covers),
            λ covers. merged_less c.loop-other.ranges c.remove.new.self c.in-Some.other c.in-Some.last c.loop-other.first c.loop-other.after c.min-first.result c.max-after.result a b without met.0 met.1 met.2 low.0 low.1 high.0 high.1 (before.1 covers),
          );
    }
