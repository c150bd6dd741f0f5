use Rattle.std.proofs.Common.{◌≡◌, arith, false}
use Rattle.std.specs.Prelude.{nat_eq}
use Rattle.std.proofs.lemmas.Bool.Decides.{nat_tests}
use Rattle.lin_text.proofs.Growing.{grows-more}
use Rattle.lin_bench.proofs.times.put_point.Goals as goal

pub returns : goal.returns
returns g c =
    let some : nat_eq c.args.count 0 ≡ false = grind (arith, nat_tests, c.if-count-eq0.false) in
    rw some (grows-more c.put_byte.ensures (grows-more c.put_number.ensures c.put_hundredths.ensures))
