use Rattle.std.proofs.Common.{◌≡◌, ◌++◌, take}
use Rattle.std.specs.Prelude.{flat_map}
use Rattle.lin_sections.specs.Differences.{differences_data, new_fact}
use Rattle.lin_sections.proofs.diff.fact_pairs.add_new_facts.Given as goal

abbrev pub invariant-loop-fact : goal.invariant-loop-fact
invariant-loop-fact l =
    differences_data l.found.items
    ≡ differences_data l.initial.found.items ++ flat_map (new_fact l.old l.new) (take l.fact-index l.new.facts)
