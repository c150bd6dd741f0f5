use Rattle.lin_text.proofs.Growing.{grows-more}
use Rattle.lin_sections.proofs.diff.difference_lines.put_difference.Goals as goal

pub returns : goal.returns
returns g c =
    let class = rw c.word.ensures at c.put.ensures in
    let kind = rw c.word-2.ensures at c.put_part.ensures in
    grows-more class (grows-more c.put_place.ensures (grows-more c.put_place-2.ensures (grows-more kind
    (grows-more c.put_part-2.ensures (grows-more c.put_part-3.ensures (grows-more c.put_part-4.ensures (grows-more c.put_byte.ensures
    (grows-more c.put_value.ensures (grows-more c.put-2.ensures (grows-more c.put_value-2.ensures c.put_byte-2.ensures))))))))))
