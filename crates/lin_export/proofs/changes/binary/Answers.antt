use Rattle.std.proofs.Common.{◌≡◌, ◌-◌, ◌++◌, suc, ap, ◌∙◌, arith}
use Rattle.std.proofs.lemmas.Grind.{common_steps}
use Rattle.lin_export.specs.Vcd.{binary}
use Rattle.lin_export.proofs.Groups.{binary-next}
use Rattle.lin_export.proofs.changes.binary.Goals as goal

pub loop-left-preserved : goal.loop-left-preserved
loop-left-preserved c =
    let v = c.loop-left.invariant in
    let some = c.loop-left-test.true in
    let few = v.few in
    let k = c.loop-left.left - 1 in
    let next : c.loop-left.left ≡ suc k = omega arith in
    record {
      few = omega arith;
      bits = ap (λ l. l ++ binary k c.args.number) c.push.ensures.items ∙ binary-next c.loop-left.bits.items c.args.number c.loop-left.left k next ∙ v.bits;
      count = let count = v.count in let more = c.push.ensures.len in grind (arith, common_steps, c.push.ensures.items, v.count, next);
    }
