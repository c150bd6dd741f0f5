use Rattle.std.proofs.Common.{◌≡◌, ◌++◌, drop}
use Rattle.lin_sections.specs.NewNames.{renames_data}
use Rattle.lin_sections.specs.Things.{entry_facts}
use Rattle.lin_sections.proofs.diff.table_facts.entries_of.Given as goal

abbrev pub invariant-loop-position : goal.invariant-loop-position
invariant-loop-position l =
    l.found.items ++ entry_facts (renames_data l.renames) l.position l.line (drop l.position l.entries) ≡ entry_facts (renames_data l.renames) 0 l.fn.lines l.entries
