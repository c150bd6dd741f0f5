use Rattle.lin_field.proofs.PlainTexts.{plain-stays}
use Rattle.lin_field.proofs.law.plain_texts_stay.Goals as goal

pub returns : goal.returns
returns c = plain-stays
