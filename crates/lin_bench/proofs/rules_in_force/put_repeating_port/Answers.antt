use Rattle.lin_text.proofs.Growing.{grows-more, same-growth}
use Rattle.lin_bench.proofs.RulesInForce.{port-spaced}
use Rattle.lin_bench.proofs.rules_in_force.put_repeating_port.Goals as goal

pub returns-in_default : goal.returns-in_default
returns-in_default g c =
    same-growth (port-spaced c.args.cluster.now c.args.by c.in_default.not-Bus) (grows-more c.put_byte.ensures c.put_port.ensures)
