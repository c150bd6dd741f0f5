use Rattle.std.proofs.Common.{◌≡◌, [], take}
use Rattle.std.specs.Prelude.{fold}
use Rattle.lin_sections.specs.Renames.{with_item}
use Rattle.lin_sections.proofs.diff.encoding_facts.items_text.Given as goal

abbrev pub invariant-loop-fact : goal.invariant-loop-fact
invariant-loop-fact l =
    l.text.items ≡ fold with_item [] (take l.fact-index l.facts)
