use Rattle.std.proofs.Common.{take, flat_map}
use Rattle.lin_text.specs.Written.{Grows}
use Rattle.lin_export.specs.Named.{named_words, signal_words}
use Rattle.lin_export.proofs.Places.{places_of}
use Rattle.lin_export.proofs.named.put_signals.Given as goal

abbrev pub invariant-loop-place : goal.invariant-loop-place
invariant-loop-place g l = Grows g.W.Write.contents l.initial.out l.out (named_words l.fn.cluster (flat_map (signal_words l.fn.cluster l.fn.answer) (take l.place (places_of l.fn.cluster l.fn.frame))))
