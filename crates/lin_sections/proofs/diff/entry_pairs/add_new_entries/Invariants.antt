use Rattle.std.proofs.Common.{◌≡◌, ◌++◌, take}
use Rattle.std.specs.Prelude.{flat_map}
use Rattle.lin_sections.specs.Differences.{differences_data, new_entry}
use Rattle.lin_sections.proofs.diff.entry_pairs.add_new_entries.Given as goal

abbrev pub invariant-loop-entry : goal.invariant-loop-entry
invariant-loop-entry l =
    differences_data l.found.items
    ≡ differences_data l.initial.found.items ++ flat_map (new_entry l.old l.new) (take l.entry-index l.new.entries)
