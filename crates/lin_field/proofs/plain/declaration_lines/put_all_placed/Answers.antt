use Rattle.std.proofs.Common.{arith}
use Rattle.lin_field.specs.Plain.{placed_text}
use Rattle.lin_text.proofs.Growing.{grows-next}
use Rattle.lin_field.proofs.plain.declaration_lines.put_all_placed.Goals as goal

pub loop-it-preserved : goal.loop-it-preserved
loop-it-preserved g c =
    grows-next placed_text c.args.placed.now c.loop-it.it-index c.it-item.result c.it-item.is (omega arith) c.loop-it.invariant c.put_placed.ensures
