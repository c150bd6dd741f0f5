use Rattle.std.proofs.Common.{arith}
use Rattle.lin_log.specs.Shown.{word_shown}
use Rattle.lin_log.specs.Words.{spaced_word}
use Rattle.lin_log.proofs.Ends.{grows-mapped}
use Rattle.lin_log.proofs.line_words.put_words.Goals as goal

pub loop-word-preserved : goal.loop-word-preserved
loop-word-preserved g c =
    grows-mapped spaced_word word_shown c.args.words.now c.loop-word.word-index c.word-item.result c.word-item.is (omega arith) c.loop-word.invariant c.put_spaced.ensures
