use Rattle.std.proofs.Common.{arith, sym}
use Rattle.lin_bench.specs.Parts.{fields_of}
use Rattle.lin_bench.proofs.FieldParts.{last-one, no-length}
use Rattle.lin_bench.proofs.fields.Fields.last.Goals as goal

pub returns-then-count-eq0 : goal.returns-then-count-eq0
returns-then-count-eq0 c = no-length (fields_of c.args.self) (omega (arith, c.len-count.ensures, c.if-count-eq0.true))

pub returns-in_err-before : goal.returns-in_err-before
returns-in_err-before c = absurd (omega (arith, c.len-count.ensures, c.if-count-eq0.false, c.in_err-before.ensures))

pub returns : goal.returns
returns c =
    last-one (fields_of c.args.self) _ (fields_of c.in_ok-before.before) c.in_ok-before.last.now _ (omega (arith, c.len-count.ensures, c.if-count-eq0.false)) c.in_ok-before.ensures
