use Rattle.lin_sections.proofs.Silence.{silence-is-sameness}
use Rattle.lin_sections.proofs.law.silence_is_sameness.Goals as goal

pub returns : goal.returns
returns c = silence-is-sameness
