use Rattle.std.proofs.Common.{arith, refl}
use Rattle.lin_bench.proofs.FieldParts.{first-of, none-counted, none-left}
use Rattle.lin_bench.proofs.fields.Fields.first.Goals as goal

pub returns-then-self-eq0-clause-split : goal.returns-then-self-eq0-clause-split
returns-then-self-eq0-clause-split c = none-counted c.args.self (omega (arith, c.if-self-eq0.true))

pub returns-in_err-field-clause-split : goal.returns-in_err-field-clause-split
returns-in_err-field-clause-split c = rw c.from_residual.ensures (none-left c.args.self c.in_err-field.ensures)

pub returns-clause-split : goal.returns-clause-split
returns-clause-split c = first-of c.args.self _ c.in_ok-field.field.now (omega (arith, c.if-self-eq0.false)) c.in_ok-field.ensures refl refl
