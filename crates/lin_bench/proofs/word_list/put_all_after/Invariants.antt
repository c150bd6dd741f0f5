use Rattle.std.proofs.Common.{take, map}
use Rattle.lin_text.specs.Written.{Grows}
use Rattle.lin_log.specs.Shown.{as_word}
use Rattle.lin_bench.specs.LineWords.{spaced_words}
use Rattle.lin_bench.proofs.word_list.put_all_after.Given as goal

abbrev pub invariant-loop-word : goal.invariant-loop-word
invariant-loop-word g l =
    Grows g.W.Write.contents l.initial.out l.out (spaced_words (g.N.Naming.language l.names) (map as_word (take l.word-index l.words)))
