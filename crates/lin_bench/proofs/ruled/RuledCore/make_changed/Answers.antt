use Rattle.lin_bench.proofs.FaultSteps.{unchanged-step}
use Rattle.lin_bench.proofs.ruled.RuledCore.make_changed.Goals as goal

pub returns-in_default : goal.returns-in_default
returns-in_default c = rw (unchanged-step c.args.by c.args.step c.in_default.not-Answer c.in_default.not-Finish) c.make_unchanged-in_default.ensures
