use Rattle.lin_bench.proofs.Benches.{until-made}
use Rattle.lin_bench.proofs.bench.Bench.slots_until.Goals as goal

pub returns : goal.returns
returns c =
    until-made c.args.self.now c.line_of_slots.new.self c.args.slots c.args.expected c.begun-expected.result c.core.result.now c.line_of_slots.result
    c.core.ensures c.begun-expected.ensures c.line_of_slots.ensures
