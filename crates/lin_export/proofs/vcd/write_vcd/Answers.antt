use Rattle.std.proofs.Common.{refl}
use Rattle.lin_export.proofs.vcd.write_vcd.Goals as goal

pub write_as-requires-clause-keeps : goal.write_as-requires-clause-keeps
write_as-requires-clause-keeps g c = record { shown = refl; waiting = c.no_counts.ensures }
