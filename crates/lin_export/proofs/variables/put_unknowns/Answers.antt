use Rattle.std.proofs.Common.{sym}
use Rattle.lin_text.proofs.Growing.{grows-more, same-growth}
use Rattle.lin_export.specs.Vcd.{unknown_change}
use Rattle.lin_export.proofs.Rows.{numbers-more}
use Rattle.lin_export.proofs.variables.put_unknowns.Goals as goal

pub loop-variable-preserved : goal.loop-variable-preserved
loop-variable-preserved g c = same-growth (sym (numbers-more unknown_change c.loop-variable.variable)) (grows-more c.loop-variable.invariant c.put_unknown.ensures)
