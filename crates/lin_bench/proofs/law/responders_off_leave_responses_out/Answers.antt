use Rattle.lin_bench.proofs.RuleLaws.{off-is-leave}
use Rattle.lin_bench.proofs.law.responders_off_leave_responses_out.Goals as goal

pub returns : goal.returns
returns c = off-is-leave
