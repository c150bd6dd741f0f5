use Rattle.lin_tool.proofs.laws.Texts.{plain-texts-are-read, plain-texts-say-the-same}
use Rattle.lin_tool.proofs.law.plain_texts_are_read.Goals as goal

pub returns : goal.returns
returns c = record { read = plain-texts-are-read; same = plain-texts-say-the-same }
