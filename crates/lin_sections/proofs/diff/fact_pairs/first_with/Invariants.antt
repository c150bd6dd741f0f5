use Rattle.std.proofs.Common.{◌≡◌, drop}
use Rattle.lin_sections.specs.Differences.{fact_with}
use Rattle.lin_sections.proofs.diff.fact_pairs.first_with.Given as goal

abbrev pub invariant-loop-fact : goal.invariant-loop-fact
invariant-loop-fact l = fact_with l.key l.facts ≡ fact_with l.key (drop l.fact-index l.facts)
