use Rattle.lin_sections.proofs.KeptThings.{silence-keeps-times}
use Rattle.lin_sections.proofs.law.silence_keeps_times.Goals as goal

pub returns : goal.returns
returns c = silence-keeps-times
