use Rattle.lin_text.proofs.Growing.{grows-more, same-growth}
use Rattle.lin_field.specs.Plain.{number_text}
use Rattle.lin_field.proofs.PlainWords.{first-at}
use Rattle.lin_field.proofs.plain.written_words.put_numbers.Goals as goal

pub returns-in-len1-up : goal.returns-in-len1-up
returns-in-len1-up g c =
    same-growth (first-at number_text c.args.numbers.now _ c.in-len1-up.len_at_least)
    (grows-more c.put_one.ensures c.put_more_numbers.ensures)
