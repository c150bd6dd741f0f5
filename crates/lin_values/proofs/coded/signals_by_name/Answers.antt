use Rattle.std.proofs.Common.{◌<◌, [], length, ap, arith}
use Rattle.lin_parts.specs.declared.parts.Signal.{Signal}
use Rattle.lin_frame.specs.declared.value.Value.TheVariants.{Scalar}
use Rattle.std.specs.Str.{bytes_eq}
use Rattle.lin_values.proofs.NamedLines.{found-more}
use Rattle.lin_values.specs.Gathered.{signal_without_coding}
use Rattle.lin_values.proofs.coded.signals_by_name.Goals as goal

pub loop-signal-preserved : goal.loop-signal-preserved
loop-signal-preserved c = λ names are q.
    let lt : c.loop-signal.signal < length c.args.cluster.now.signals = omega arith in
    let none : Signal = record { name = []; publisher = 0; subscribers = []; size = 1; initial = Scalar 0 } in
    found-more (signal_without_coding names) (λ (s : Signal). bytes_eq s.name q) c.args.cluster.now.signals c.loop-signal.signal none c.uncoded.result (bytes_eq c.signal_name.result.now q) _ _ lt
    (c.uncoded.ensures names are) (ap (λ n. bytes_eq n q) c.signal_name.ensures) (c.loop-signal.invariant names are q) (c.in_ok-put_first.ensures.put q)
