use Rattle.lin_sections.proofs.KeptThings.{silence-keeps-bytes}
use Rattle.lin_sections.proofs.law.silence_keeps_bytes.Goals as goal

pub returns : goal.returns
returns c = silence-keeps-bytes
