use Rattle.std.proofs.Common.{◌≡◌, take, map}
use Rattle.lin_field.specs.Plain.{plain_name}
use Rattle.lin_field.proofs.plain.table_names.table_names.Given as goal

abbrev pub invariant-loop-table : goal.invariant-loop-table
invariant-loop-table l =
    l.names.items
    ≡ map (λ t. plain_name (map (λ n. n.now) l.declared) t.name) (take l.table-index l.tables)
