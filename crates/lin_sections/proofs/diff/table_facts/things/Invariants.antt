use Rattle.std.proofs.Common.{◌≡◌, flat_map, take}
use Rattle.std.specs.Prelude.{zip}
use Rattle.lin_parts.specs.declared.description.Table.{Table}
use Rattle.lin_sections.specs.NewNames.{renames_data}
use Rattle.lin_sections.specs.Things.{compared_data, lines_in, table_thing_of}
use Rattle.lin_schedule.specs.declared.table_load.TableLoad.{TableLoad}
use Rattle.lin_sections.proofs.diff.table_facts.things.Given as goal

abbrev pub invariant-loop-number : goal.invariant-loop-number
invariant-loop-number l =
    l.things.items
    ≡ flat_map (λ (t : Table × TableLoad). table_thing_of (lines_in (compared_data l.facts.ldf)) (renames_data l.renames) t.0 t.1)
    (take l.number (zip l.facts.ldf.description.now.tables l.facts.ldf.loads.now))
