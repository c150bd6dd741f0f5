use Rattle.std.proofs.Common.{take, flat_map, map}
use Rattle.lin_log.specs.Words.{spaced_word}
use Rattle.lin_text.specs.Written.{Grows}
use Rattle.lin_log.specs.Shown.{word_shown}
use Rattle.lin_log.proofs.line_words.put_words.Given as goal

abbrev pub invariant-loop-word : goal.invariant-loop-word
invariant-loop-word g l = Grows g.W.Write.contents l.initial.out l.out (flat_map spaced_word (map word_shown (take l.word-index l.words)))
