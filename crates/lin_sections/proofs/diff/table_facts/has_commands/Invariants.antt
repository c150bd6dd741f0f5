use Rattle.std.proofs.Common.{◌≡◌, take, false}
use Rattle.std.specs.List.{list_any}
use Rattle.lin_sections.specs.Things.{has_command}
use Rattle.lin_sections.proofs.diff.table_facts.has_commands.Given as goal

abbrev pub invariant-loop-table : goal.invariant-loop-table
invariant-loop-table l = list_any has_command (take l.table-index l.tables) ≡ false
