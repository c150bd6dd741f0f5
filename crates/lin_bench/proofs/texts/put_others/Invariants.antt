use Rattle.std.proofs.Common.{flat_map, take}
use Rattle.lin_log.specs.Language.{named_language}
use Rattle.lin_text.specs.Written.{Grows}
use Rattle.lin_bench.specs.LineWords.{spaced_words}
use Rattle.lin_bench.specs.Texts.{other_pending_words}
use Rattle.lin_bench.proofs.texts.put_others.Given as goal

abbrev pub invariant-loop-one : goal.invariant-loop-one
invariant-loop-one g l =
    Grows g.W.Write.contents l.initial.out l.out (spaced_words (named_language l.cluster) (flat_map other_pending_words (take l.one-index l.pending)))
