use Rattle.std.proofs.Common.{ℕ, eqb, refl, arith}
use Rattle.lin_ldf.specs.Bytes.{is_separator}
use Rattle.lin_ldf.proofs.ByteTable.{agree_below, by_class}
use Rattle.lin_ldf.proofs.classes.is_separator.Goals as goal

pub returns : goal.returns
unfolding agree_below
returns c = by_class (λ (k : ℕ). eqb k 115) is_separator c.args.c (omega arith) refl
