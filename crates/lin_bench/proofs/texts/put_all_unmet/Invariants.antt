use Rattle.std.proofs.Common.{take, flat_map}
use Rattle.lin_text.specs.Written.{Grows}
use Rattle.lin_bench.specs.Texts.{unmet_text}
use Rattle.lin_bench.proofs.texts.put_all_unmet.Given as goal

abbrev pub invariant-loop-one : goal.invariant-loop-one
invariant-loop-one g l = Grows g.W.Write.contents l.initial.out l.out (flat_map (unmet_text l.cluster l.files) (take l.one-index l.judgements))
