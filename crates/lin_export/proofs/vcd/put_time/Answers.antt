use Rattle.std.proofs.Common.{◌≡◌, true, arith}
use Rattle.std.specs.Prelude.{nat_lt}
use Rattle.std.proofs.lemmas.Bool.Decides.{nat_tests}
use Rattle.lin_text.proofs.Growing.{grows-more}
use Rattle.lin_export.proofs.vcd.put_time.Goals as goal

pub returns-then-last-at : goal.returns-then-last-at
returns-then-last-at g c =
    let t : nat_lt c.args.last c.args.at ≡ true = grind (arith, nat_tests, c.if-last-at.true) in
    rw t (grows-more c.put_byte.ensures (grows-more c.put_number.ensures c.put_byte-then-last-at.ensures))
