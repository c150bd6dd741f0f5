use Rattle.std.proofs.Common.{◌≡◌, IfOk, subst, sym}
use Rattle.lin_bench.specs.Parts.{fields_of}
use Rattle.lin_bench.proofs.UnmarkedValues.{asked, not-asked}
use Rattle.lin_bench.proofs.unmarked.is_signal_after.Goals as goal

pub returns-then-asks_value : goal.returns-then-asks_value
returns-then-asks_value c =
    subst (λ x. IfOk c.reads_initial.result (λ r. r ≡ x))
    (sym (asked c.args.cluster.now (fields_of c.args.before) c.args.signal.now (sym c.if-asks_value.ensures)))
    c.reads_initial.ensures

pub returns : goal.returns
returns c = sym (not-asked c.args.cluster.now (fields_of c.args.before) c.args.signal.now (sym c.if-asks_value.ensures))
