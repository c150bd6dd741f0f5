use Rattle.lin_text.proofs.Growing.{grows-more}
use Rattle.lin_bench.proofs.times.put_time.Goals as goal

pub returns : goal.returns
returns g c = grows-more c.put_number.ensures c.put_point.ensures
