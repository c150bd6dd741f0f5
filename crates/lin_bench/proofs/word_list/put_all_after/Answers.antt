use Rattle.std.proofs.Common.{arith}
use Rattle.lin_log.specs.Shown.{as_word}
use Rattle.lin_bench.specs.LineWords.{text_after_space}
use Rattle.lin_log.proofs.Ends.{grows-mapped}
use Rattle.lin_bench.proofs.word_list.put_all_after.Goals as goal

pub loop-word-preserved : goal.loop-word-preserved
loop-word-preserved g c =
    let names = c.args.names.now in
    grows-mapped (text_after_space (g.N.Naming.language names)) as_word c.args.words.now c.loop-word.word-index c.word-item.result c.word-item.is (omega arith)
    c.loop-word.invariant c.put_after.ensures
