use Rattle.std.proofs.Common.{◌<◌, ◌^◌, sym, arith}
use Rattle.std.proofs.Math.Nat.{mod-eq_of_lt}
use Rattle.std.proofs.Math.Pow.{pow_mono}
use Rattle.lin_field.proofs.signals.low_bits.Goals as goal

pub returns-else-size-lt64 : goal.returns-else-size-lt64
returns-else-size-lt64 c =
    let fits : c.args.value < 2 ^ c.args.size = omega (arith, pow_mono c.if-size-lt64.false) in
    sym (mod-eq_of_lt fits)
