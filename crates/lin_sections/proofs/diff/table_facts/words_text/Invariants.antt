use Rattle.std.proofs.Common.{◌≡◌, take}
use Rattle.lin_sections.specs.Renames.{words_key}
use Rattle.lin_sections.proofs.diff.table_facts.words_text.Given as goal

abbrev pub invariant-loop-entry : goal.invariant-loop-entry
invariant-loop-entry l =
    l.text.items ≡ words_key (take l.entry-index l.entries)
