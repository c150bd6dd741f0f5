use Rattle.std.proofs.Common.{◌≡◌, ap, arith, flat_map, sym}
use Rattle.lin_frame.specs.Words.{numbers}
use Rattle.lin_log.specs.Language.{named_language}
use Rattle.lin_parts.specs.Cluster.{nodes}
use Rattle.lin_text.proofs.Growing.{grows-more, same-growth}
use Rattle.lin_bench.specs.LineWords.{spaced_words}
use Rattle.lin_live.specs.Values.{node_words}
use Rattle.lin_live.proofs.SaidWords.{nodes-more}
use Rattle.lin_live.proofs.answer_texts.put_nodes.Goals as goal

pub loop-node-preserved : goal.loop-node-preserved
loop-node-preserved g c =
    same-growth (sym (nodes-more c.args.cluster.now c.loop-node.node)) (grows-more c.loop-node.invariant (grows-more c.put_gap.ensures c.put_node.ensures))

pub returns : goal.returns
returns g c =
    let x = c.args.cluster.now in
    let all : c.loop-node.node ≡ nodes x = omega arith in
    same-growth (ap (λ n. spaced_words (named_language x) (flat_map (node_words x) (numbers n))) all) c.loop-node.invariant
