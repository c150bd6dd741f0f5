use Rattle.std.proofs.Common.{ap, ◌∙◌, arith}
use Rattle.std.specs.Prelude.{slice_index}
use Rattle.lin_export.proofs.slot_object.last_number.Goals as goal

pub returns : goal.returns
returns c = λ count are. let few = c.ranges.host.fits in ap (slice_index c.args.last.now) c.from.ensures ∙ are c.args.host (omega arith)
