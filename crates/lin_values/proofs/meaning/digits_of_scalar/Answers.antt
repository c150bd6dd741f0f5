use Rattle.std.proofs.Common.{arith, sym, refl, length-append, length, ℕ, ap}
use Rattle.lin_values.proofs.Digits.{scalar-next, scalar-bad}
use Rattle.lin_values.proofs.meaning.digits_of_scalar.Goals as goal

pub returns-then-not-push_digit : goal.returns-then-not-push_digit
returns-then-not-push_digit c =
    sym (scalar-bad _ _ c.loop-left.left c.args.raw _ (omega arith) c.if-not-push_digit.ensures refl c.loop-left.invariant.so_far)

pub loop-left-preserved : goal.loop-left-preserved
loop-left-preserved c =
    let e = c.if-not-push_digit.ensures in
    record {
      few = omega (arith, ap length e.1, length-append {A = ℕ});
      so_far = rw e.1 (scalar-next _ _ c.loop-left.left c.args.raw _ (omega arith) e.0 refl c.loop-left.invariant.so_far);
    }
