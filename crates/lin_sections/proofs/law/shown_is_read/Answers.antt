use Rattle.lin_sections.proofs.DecimalLaws.{shown-is-read}
use Rattle.lin_sections.proofs.law.shown_is_read.Goals as goal

pub returns : goal.returns
returns c = shown-is-read
