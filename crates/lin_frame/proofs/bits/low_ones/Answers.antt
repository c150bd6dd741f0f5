use Rattle.std.proofs.Common.{◌-◌, ◌^◌, ap, ◌∙◌, arith}
use Rattle.std.proofs.lemmas.Nat.Bits.{ones_shr}
use Rattle.lin_frame.proofs.bits.low_ones.Goals as goal

pub returns : goal.returns
returns c =
    ones_shr 64 (64 - c.args.size) (omega arith) ∙ ap (λ k. 2 ^ k - 1) (omega arith)
