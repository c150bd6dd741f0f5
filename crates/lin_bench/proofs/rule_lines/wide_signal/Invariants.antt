use Rattle.std.proofs.Common.{◌≡◌, drop}
use Rattle.std.specs.Prelude.{find}
use Rattle.lin_bench.specs.RuleLines.{has_several_bits}
use Rattle.lin_bench.proofs.rule_lines.wide_signal.Given as goal

abbrev pub invariant-loop-error : goal.invariant-loop-error
invariant-loop-error l =
    find (has_several_bits l.cluster) l.cluster.errors ≡ find (has_several_bits l.cluster) (drop l.error-index l.cluster.errors)
