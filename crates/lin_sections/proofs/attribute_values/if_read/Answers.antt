use Rattle.std.proofs.Common.{ap, sym}
use Rattle.std.specs.Option.{option_map}
use Rattle.lin_sections.proofs.StatementSteps.{reads-nothing}
use Rattle.lin_sections.proofs.attribute_values.if_read.Goals as goal

pub returns-in_default : goal.returns-in_default
returns-in_default g c = λ form left gives.
    sym (ap (option_map (λ r. r.0)) (reads-nothing c.in-Err.fault form c.in_default.not-OutOfMemory (rw c.in-Err.is at gives)))
