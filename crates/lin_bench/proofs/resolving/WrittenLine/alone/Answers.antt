use Rattle.lin_bench.proofs.WrittenLines.{not-alone}
use Rattle.lin_bench.proofs.resolving.WrittenLine.alone.Goals as goal

pub returns-in-Some : goal.returns-in-Some
returns-in-Some c = not-alone c.args.self.text.now c.first_line.result.0.now c.first_line.result.1 _ c.first_line.ensures.lines c.in-Some.is
