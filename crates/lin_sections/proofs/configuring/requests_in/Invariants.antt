use Rattle.std.proofs.Common.{◌≡◌, map, take}
use Rattle.lin_parts.specs.declared.parts.Table.{Table}
use Rattle.lin_sections.specs.Configuring.{requests_named}
use Rattle.lin_sections.proofs.configuring.requests_in.Given as goal

abbrev pub invariant-loop-table : goal.invariant-loop-table
invariant-loop-table l = l.all.items ≡ map (λ (t : Table). requests_named l.tables t.name) (take l.table l.cluster.tables)
