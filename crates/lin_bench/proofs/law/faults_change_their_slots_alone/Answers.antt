use Rattle.std.proofs.Common.{refl}
use Rattle.lin_bench.proofs.AlikeBefore.{alike-before}
use Rattle.lin_bench.proofs.FaultSteps.{no-fault-refused}
use Rattle.lin_bench.proofs.law.faults_change_their_slots_alone.Goals as goal

pub returns-clause-none : goal.returns-clause-none
returns-clause-none c strict parts opening capacity ls = refl

pub returns-clause-done : goal.returns-clause-done
returns-clause-done c = no-fault-refused

pub returns-clause-before : goal.returns-clause-before
returns-clause-before c = alike-before
