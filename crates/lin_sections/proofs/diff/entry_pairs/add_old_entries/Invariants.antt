use Rattle.std.proofs.Common.{◌≡◌, ◌++◌, flat_map, take}
use Rattle.lin_sections.specs.Differences.{differences_data, old_entry}
use Rattle.lin_sections.proofs.diff.entry_pairs.add_old_entries.Given as goal

abbrev pub invariant-loop-entry : goal.invariant-loop-entry
invariant-loop-entry l =
    differences_data l.found.items ≡ differences_data l.initial.found.items ++ flat_map (old_entry l.old l.new) (take l.entry-index l.old.entries)
