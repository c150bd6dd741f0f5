use Rattle.std.proofs.Common.{◌≡◌, ◌≤◌, ◌*◌, length}
use Rattle.std.specs.Prelude.{sum_by}
use Rattle.lin_frame.specs.Words.{numbers}
use Rattle.lin_core.specs.Core.{past_of}
use Rattle.lin_core.specs.Links.{waiting}
use Rattle.lin_tool.proofs.tally.waiting_in.Given as goal

abbrev pub invariant-loop-host : goal.invariant-loop-host
invariant-loop-host l = record {
  sum : l.count ≡ sum_by (λ h. length (waiting l.fn.core.cluster (past_of l.fn.core) h)) (numbers l.host);
  few : l.count ≤ 18446744073709551616 * l.host;
}
