use Rattle.std.proofs.Common.{◌<◌, [], length, ap, ◌∙◌, arith}
use Rattle.lin_parts.specs.declared.parts.Signal.{Signal}
use Rattle.lin_frame.specs.declared.value.Value.TheVariants.{Scalar}
use Rattle.lin_values.proofs.NamedLines.{pushed-more}
use Rattle.lin_values.specs.Gathered.{encoding_in, signal_in}
use Rattle.lin_values.proofs.coded.all_signals.Goals as goal

pub loop-signal-preserved : goal.loop-signal-preserved
loop-signal-preserved c = λ names are.
    let lt : c.loop-signal.signal < length c.args.cluster.now.signals = omega arith in
    let none : Signal = record { name = []; publisher = 0; subscribers = []; size = 1; initial = Scalar 0 } in
    let encoding = c.encoding_of-encoding.ensures ∙ ap (encoding_in c.args.named.now.map) c.signal_name.ensures in
    pushed-more (signal_in names c.args.named.now.map) c.args.cluster.now.signals c.loop-signal.signal none _ c.loop-signal.signals.items c.push.new.self.items lt
    (λ i. record { bits = (c.uncoded.ensures names are i).bits; is_array = (c.uncoded.ensures names are i).is_array; is_wide = (c.uncoded.ensures names are i).is_wide; encoding = encoding i }) (c.loop-signal.invariant names are) c.in_ok-push.ensures.items
