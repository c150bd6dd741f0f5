use Rattle.std.proofs.Common.{◌∙◌, ap, sym}
use Rattle.lin_sections.specs.Statements.{tokens_left}
use Rattle.lin_sections.proofs.StatementSteps.{nothing-ahead, reads-nothing}
use Rattle.lin_sections.proofs.statements.pass_read.Goals as goal

pub returns-in_default : goal.returns-in_default
returns-in_default c = λ form gives.
    c.new.ensures ∙ nothing-ahead ∙ sym (ap tokens_left (reads-nothing c.in-Err.fault form c.in_default.not-OutOfMemory (rw c.in-Err.is at gives)))
