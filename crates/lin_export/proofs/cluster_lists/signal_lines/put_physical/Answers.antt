use Rattle.std.proofs.Common.{ap}
use Rattle.lin_text.proofs.Growing.{grows-more, same-growth}
use Rattle.lin_values.specs.Shown.{decimal_shown}
use Rattle.lin_export.proofs.cluster_lists.signal_lines.put_physical.Goals as goal

pub returns : goal.returns
returns g c = grows-more c.put_byte.ensures (same-growth (ap decimal_shown c.decimal.ensures.same) c.put_decimal.ensures)
