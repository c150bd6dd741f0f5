use Rattle.lin_live.proofs.Transcripts.{transcript-append}
use Rattle.lin_live.proofs.law.transcripts_split.Goals as goal

pub returns : goal.returns
returns g c = transcript-append g.S.Answering.reply
