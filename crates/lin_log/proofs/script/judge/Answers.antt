use Rattle.std.proofs.Common.{◌∙◌, arith}
use Rattle.lin_log.proofs.Judging.{prefixed-nothing}
use Rattle.lin_log.proofs.script.judge.Goals as goal

pub loop-steps-init : goal.loop-steps-init
loop-steps-init c = record {
  read = rw c.new-steps.ensures.items (prefixed-nothing _ ∙ c.new-lines.ensures.said);
  few = omega arith;
  each = rw c.new-steps.ensures.items (omega arith);
  most = omega arith;
}
