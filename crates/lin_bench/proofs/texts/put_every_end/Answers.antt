use Rattle.lin_text.proofs.Growing.{grows-more, same-growth}
use Rattle.lin_bench.proofs.RulesInForce.{every-end-text}
use Rattle.lin_bench.proofs.texts.put_every_end.Goals as goal

pub returns : goal.returns
returns g c =
    same-growth (every-end-text c.args.cluster.now c.args.by c.args.step.now)
    (grows-more c.put_text.ensures (grows-more c.put_repeating_port.ensures c.put_step.ensures))
