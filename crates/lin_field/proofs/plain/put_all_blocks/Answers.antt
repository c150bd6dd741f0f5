use Rattle.std.proofs.Common.{map, arith}
use Rattle.lin_field.specs.Plain.{block_text}
use Rattle.lin_field.proofs.PlainWords.{grows-part}
use Rattle.lin_field.proofs.plain.put_all_blocks.Goals as goal

pub loop-number-preserved : goal.loop-number-preserved
loop-number-preserved g c =
    grows-part (block_text c.args.source.now) (map (λ p. p.now) c.args.parts.now) c.args.blocks.now c.loop-number.number c.index-blocks-number.result c.index-blocks-number.is (omega arith)
    c.loop-number.invariant (rw c.inside_at.ensures at c.put_block.ensures)
