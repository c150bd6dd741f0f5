use Rattle.std.proofs.Common.{ℕ, nat_lt, refl, arith}
use Rattle.lin_ldf.specs.Bytes.{is_word_byte}
use Rattle.lin_ldf.proofs.ByteTable.{agree_below, by_class}
use Rattle.lin_ldf.proofs.classes.is_word_byte.Goals as goal

pub returns : goal.returns
unfolding agree_below
returns c = by_class (λ (k : ℕ). nat_lt k 97) is_word_byte c.args.c (omega arith) refl
