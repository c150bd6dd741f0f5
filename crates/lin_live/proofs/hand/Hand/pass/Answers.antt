use Rattle.lin_text.proofs.Adding.{appends-nothing}
use Rattle.lin_live.specs.Hand.{mark_items}
use Rattle.lin_live.proofs.HeldMarks.{passes}
use Rattle.lin_live.proofs.hand.Hand.pass.Goals as goal

pub returns-in-Some : goal.returns-in-Some
returns-in-Some g c =
    passes c.self.inside.held (mark_items c.self.inside.marks) c.in-Some.held c.args.self.now _ _ c.pass.result c.in-Some.is c.self.view_is c.pass.ensures

pub returns-in-None : goal.returns-in-None
returns-in-None g c = appends-nothing (g.W.Write.contents c.args.writer.now)
