use Rattle.std.proofs.Common.{flat_map}
use Rattle.lin_frame.specs.Words.{numbers}
use Rattle.lin_text.specs.Written.{Grows}
use Rattle.lin_export.specs.Csv.{after_comma, signal_names}
use Rattle.lin_export.specs.WhereTold.{given_coding}
use Rattle.lin_export.proofs.csv.put_signal_names.Given as goal

abbrev pub invariant-loop-signal : goal.invariant-loop-signal
invariant-loop-signal g l = Grows g.W.Write.contents l.initial.out l.out (flat_map after_comma (flat_map (signal_names l.cluster (given_coding l.coded)) (numbers l.signal)))
