use Rattle.std.proofs.Common.{◌++◌, codes, arith}
use Rattle.lin_field.specs.Plain.{name_text}
use Rattle.lin_text.proofs.Growing.{grows-more, grows-next}
use Rattle.lin_field.proofs.plain.written_words.put_more_names.Goals as goal

pub loop-name-preserved : goal.loop-name-preserved
loop-name-preserved g c =
    grows-next (λ x. codes ", " ++ name_text x) c.args.names.now c.loop-name.name-index c.name-item.result c.name-item.is (omega arith) c.loop-name.invariant
    (grows-more c.put_text.ensures (rw c.as_slice.ensures at c.put.ensures))
