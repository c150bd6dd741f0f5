use Rattle.lin_field.proofs.Remarks.{silence}
use Rattle.lin_field.proofs.law.silence_is_free.Goals as goal

pub returns : goal.returns
returns c = silence
