use Rattle.lin_text.proofs.Growing.{grows-more, same-growth}
use Rattle.lin_field.specs.Plain.{name_text}
use Rattle.lin_field.proofs.PlainWords.{first-and-more}
use Rattle.lin_field.proofs.plain.written_words.put_names.Goals as goal

pub returns-in-len1-up : goal.returns-in-len1-up
returns-in-len1-up g c =
    same-growth (first-and-more name_text c.args.names.now c.first-item.result c.in-len1-up.len_at_least c.first-item.is)
    (grows-more (rw c.as_slice.ensures at c.put.ensures) c.put_more_names.ensures)
