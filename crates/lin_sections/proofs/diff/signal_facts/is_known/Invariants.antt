use Rattle.std.proofs.Common.{◌≡◌, take, false}
use Rattle.std.specs.List.{list_any}
use Rattle.lin_sections.specs.Things.{is_subscriber}
use Rattle.lin_sections.proofs.diff.signal_facts.is_known.Given as goal

abbrev pub invariant-loop-fact : goal.invariant-loop-fact
invariant-loop-fact l = list_any (is_subscriber l.name) (take l.fact-index l.facts) ≡ false
