use Rattle.lin_text.proofs.Growing.{grows-more}
use Rattle.lin_tool.proofs.junit.put_case_place.Goals as goal

pub returns : goal.returns
returns g c = grows-more c.put_case_mark.ensures c.put_number.ensures
