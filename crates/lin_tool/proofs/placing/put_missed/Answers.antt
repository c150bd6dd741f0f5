use Rattle.std.proofs.Common.{ap}
use Rattle.lin_text.proofs.Growing.{grows-more, same-growth}
use Rattle.lin_tool.specs.Placing.{moment_text}
use Rattle.lin_tool.specs.declared.placing.Moment.{Moment}
use Rattle.lin_tool.proofs.placing.put_missed.Goals as goal

pub returns : goal.returns
returns g c = λ log is.
    grows-more c.put_placed.ensures
    (grows-more c.put_judged.ensures (same-growth (ap (λ (m : Moment). moment_text m.slots m.time_us) is) c.put_moment.ensures))
