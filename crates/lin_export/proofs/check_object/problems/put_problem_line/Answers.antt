use Rattle.lin_text.proofs.Growing.{grows-more}
use Rattle.lin_export.proofs.check_object.problems.put_problem_line.Goals as goal

pub returns : goal.returns
returns g c =
    grows-more c.put_text.ensures
    (grows-more c.put_line_place.ensures
    (grows-more c.put_byte.ensures (grows-more c.put_words.ensures (grows-more c.put_token.ensures c.put_byte-2.ensures))))
