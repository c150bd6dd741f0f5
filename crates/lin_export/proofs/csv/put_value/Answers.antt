use Rattle.std.proofs.lemmas.Fmt.{decimal_digit}
use Rattle.lin_export.proofs.csv.put_value.Goals as goal

pub returns-in-Scalar : goal.returns-in-Scalar
returns-in-Scalar g c =
    rw c.in-Scalar.is (rw (decimal_digit c.in-Scalar.number c.if-number-lt10.true) c.put.ensures)
