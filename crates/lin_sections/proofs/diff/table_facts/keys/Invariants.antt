use Rattle.std.proofs.Common.{◌≡◌, flat_map, map, take}
use Rattle.lin_sections.specs.NewNames.{alone, has_in, keyed_name, renames_data}
use Rattle.lin_sections.specs.Renames.{table_keys_of}
use Rattle.lin_sections.specs.Things.{compared_data, lines_in}
use Rattle.lin_sections.proofs.diff.table_facts.keys.Given as goal

abbrev pub invariant-loop-table : goal.invariant-loop-table
invariant-loop-table l =
    map keyed_name l.keys.items
    ≡ alone (has_in l.others.map) (flat_map (table_keys_of (lines_in (compared_data l.facts.ldf)) (renames_data l.renames)) (take l.table-index l.facts.ldf.description.now.tables))
