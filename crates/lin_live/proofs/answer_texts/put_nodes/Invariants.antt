use Rattle.std.proofs.Common.{flat_map}
use Rattle.lin_frame.specs.Words.{numbers}
use Rattle.lin_log.specs.Language.{named_language}
use Rattle.lin_text.specs.Written.{Grows}
use Rattle.lin_bench.specs.LineWords.{spaced_words}
use Rattle.lin_live.specs.Values.{node_words}
use Rattle.lin_live.proofs.answer_texts.put_nodes.Given as goal

abbrev pub invariant-loop-node : goal.invariant-loop-node
invariant-loop-node g l =
    Grows g.W.Write.contents l.initial.out l.out (spaced_words (named_language l.cluster) (flat_map (node_words l.cluster) (numbers l.node)))
