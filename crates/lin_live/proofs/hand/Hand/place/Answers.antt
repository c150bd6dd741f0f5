use Rattle.lin_live.proofs.HeldMarks.{no-place, places}
use Rattle.lin_live.proofs.hand.Hand.place.Goals as goal

pub returns-in-Some : goal.returns-in-Some
returns-in-Some c =
    let a = c.self.inside in
    let p = places a.held a.marks c.args.self.now c.in-Some.marks c.as_slice.result.now c.args.name.now c.mark_place.result c.in-Some.is c.self.view_is c.as_slice.ensures.value c.mark_place.ensures.place c.mark_place.ensures.there in
    record { place = p.0; there = p.1 }

pub returns-in-None : goal.returns-in-None
returns-in-None c = record { place = no-place c.self.inside.held c.self.inside.marks c.args.self.now c.args.name.now c.in-None.is c.self.view_is; there = tt }
