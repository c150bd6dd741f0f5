use Rattle.std.proofs.Common.{ℕ, eqb, refl, arith}
use Rattle.lin_ldf.specs.Scanning.{is_alone}
use Rattle.lin_ldf.proofs.ByteTable.{agree_below, by_class}
use Rattle.lin_ldf.proofs.classes.is_alone.Goals as goal

pub returns : goal.returns
unfolding agree_below
returns c = by_class (λ (k : ℕ). eqb k 109) is_alone c.args.c (omega arith) refl
