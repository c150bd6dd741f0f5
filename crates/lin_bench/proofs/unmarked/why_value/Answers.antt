use Rattle.std.proofs.Common.{◌≡◌, ◌∙◌, IfOk, subst, sym}
use Rattle.lin_bench.specs.Fields.{signal_field}
use Rattle.lin_bench.specs.Parts.{fields_of}
use Rattle.lin_bench.proofs.UnmarkedValues.{coded-value, numeric-value, unknown-value}
use Rattle.lin_bench.proofs.unmarked.why_value.Goals as goal

pub returns-then-is_numeric : goal.returns-then-is_numeric
returns-then-is_numeric c =
    sym (numeric-value c.args.coded.now c.args.signal.now (signal_field c.args.cluster.now c.args.signal.now) c.args.ranged (fields_of c.args.value) (sym c.if-is_numeric.ensures))

pub returns-in-Ok : goal.returns-in-Ok
returns-in-Ok c =
    subst (λ x. IfOk c.why_of_signal.result (λ r. r ≡ x))
    (sym (coded-value c.args.coded.now c.args.signal.now (signal_field c.args.cluster.now c.args.signal.now) c.in-Ok.number c.args.ranged (fields_of c.args.value) (sym c.if-is_numeric.ensures) c.in-Ok.ensures))
    c.why_of_signal.ensures

pub returns-in-Err-Bad : goal.returns-in-Err-Bad
returns-in-Err-Bad c =
    sym (unknown-value c.args.coded.now c.args.signal.now (signal_field c.args.cluster.now c.args.signal.now) c.in-Err-Bad.field-0 c.in-Err-Bad.field-0-0 c.args.ranged (fields_of c.args.value) (sym c.if-is_numeric.ensures) c.in-Err-Bad.field-0-is c.in-Err-Bad.ensures)
