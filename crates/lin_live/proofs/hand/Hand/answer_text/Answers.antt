use Rattle.lin_text.proofs.Adding.{appends-nothing}
use Rattle.lin_live.proofs.hand.Hand.answer_text.Goals as goal

pub returns-in_default : goal.returns-in_default
returns-in_default g c = appends-nothing (g.W.Write.contents c.args.writer.now)
