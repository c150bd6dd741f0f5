use Rattle.std.proofs.Common.{◌≡◌, ◌≤◌, drop, length, option_map}
use Rattle.lin_bench.specs.Rules.{rule_for}
use Rattle.lin_bench.proofs.answers.rule_for.Given as goal

abbrev pub invariant-loop-index : goal.invariant-loop-index
invariant-loop-index l = record {
  within : l.index ≤ length l.whens;
  best : option_map (λ w. w.now) l.best ≡ rule_for (drop l.index l.whens) l.node l.state l.message;
}

abbrev pub decreases-loop-index : goal.decreases-loop-index
decreases-loop-index l = l.index
