use Rattle.std.proofs.Common.{◌≡◌, ◌++◌, length, option_map}
use Rattle.lin_log.specs.Said.{fields, hex_row}
use Rattle.lin_log.proofs.values.row.Given as goal

abbrev pub invariant-loop-field : goal.invariant-loop-field
invariant-loop-field g l = option_map (λ more. l.row.items ++ more) (hex_row (fields (g.N.Naming.language l.names).free l.left)) ≡ hex_row (fields (g.N.Naming.language l.names).free l.line)

abbrev pub decreases-loop-field : goal.decreases-loop-field
decreases-loop-field g l = length (fields (g.N.Naming.language l.names).free l.left)
