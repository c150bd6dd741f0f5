use Rattle.std.proofs.Common.{ap, ◌∙◌, ◌/◌, ◌^◌, bit_and}
use Rattle.std.proofs.lemmas.Nat.{and_mask}
use Rattle.lin_frame.proofs.bits.take_bits.Goals as goal

pub returns : goal.returns
returns c =
    ap (λ m. bit_and (c.args.word / 2 ^ c.args.offset) m) c.low_ones.ensures ∙ and_mask (c.args.word / 2 ^ c.args.offset) c.args.size
