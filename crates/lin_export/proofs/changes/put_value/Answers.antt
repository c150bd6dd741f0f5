use Rattle.std.proofs.Common.{◌≡◌, false, arith}
use Rattle.std.specs.Prelude.{◌==◌}
use Rattle.std.proofs.lemmas.Bool.Decides.{nat_tests}
use Rattle.lin_text.proofs.Growing.{grows-more}
use Rattle.lin_export.proofs.changes.put_value.Goals as goal

pub returns-else-width-eq1 : goal.returns-else-width-eq1
returns-else-width-eq1 g c =
    let t : (c.args.width == 1) ≡ false = grind (arith, nat_tests, c.if-width-eq1.false) in
    rw t (grows-more c.put_byte.ensures (grows-more c.put-else-width-eq1.ensures c.put_byte-else-width-eq1.ensures))
