use Rattle.std.proofs.Common.{subst}
use Rattle.lin_text.proofs.Adding.{appends-nothing}
use Rattle.lin_live.specs.Asked.{Fails}
use Rattle.lin_live.proofs.Replying.{fails-so}
use Rattle.lin_live.proofs.hand.Hand.answer_fault.Goals as goal

pub returns-in-Bad : goal.returns-in-Bad
returns-in-Bad g c said e = fails-so c.args.self.now _ c.in-Bad.reason said _ _ c.refuse.result (subst (λ f. Fails f said) c.in-Bad.is e) c.refuse.ensures

pub returns-in-OutOfMemory : goal.returns-in-OutOfMemory
returns-in-OutOfMemory g c said e = appends-nothing (g.W.Write.contents c.args.writer.now)
