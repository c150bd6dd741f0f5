use Rattle.std.proofs.Common.{◌≡◌, map, take}
use Rattle.lin_field.specs.Times.{calls}
use Rattle.lin_field.proofs.times.calls.Given as goal

abbrev pub invariant-loop-table : goal.invariant-loop-table
invariant-loop-table l = map (λ c. c.entry.now) l.calls.items ≡ calls (take l.table-index l.tables)
