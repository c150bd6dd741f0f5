use Rattle.std.proofs.Common.{◌≡◌, IfOk, subst}
use Rattle.lin_bench.specs.Parts.{fields_of}
use Rattle.lin_bench.proofs.SignalPlaces.{signal-cut}
use Rattle.lin_bench.proofs.unmarked.is_signal.Goals as goal

pub returns-in-Some : goal.returns-in-Some
returns-in-Some c =
    subst (λ x. IfOk c.is_signal_after.result (λ r. r ≡ x))
    (signal-cut c.args.cluster.now (fields_of c.args.all) c.args.at _ _ _ c.in-Some.ensures)
    c.is_signal_after.ensures
