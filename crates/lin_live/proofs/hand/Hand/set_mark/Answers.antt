use Rattle.lin_live.specs.declared.hand.NamedMark.{NamedMark}
use Rattle.lin_live.proofs.HeldMarks.{set-its, sets}
use Rattle.lin_live.proofs.hand.Hand.set_mark.Goals as goal

pub invariant_of-self-2 : goal.invariant_of-self-2
invariant_of-self-2 c =
    let a = c.self.inside in
    let m : NamedMark = record { name = c.args.name; at = c.in_ok-at.at } in
    set-its c.put_mark.result a.held a.marks a.opening c.in-Some.held c.in-Some-marks.marks c.put_mark.new.marks m c.in-Some.is c.in-Some-marks.is c.self.invariant
    c.in_ok-at.ensures.mark c.in_ok-at.ensures.state c.put_mark.ensures.put c.put_mark.ensures.rest

pub returns : goal.returns
returns c =
    let a = c.self.inside in
    let m : NamedMark = record { name = c.args.name; at = c.in_ok-at.at } in
    sets c.put_mark.result a.held a.marks a.opening c.in-Some.held c.args.self.now c.in-Some-marks.marks c.put_mark.new.marks m c.in-Some.is c.in-Some-marks.is c.self.invariant c.self.view_is
    c.in_ok-at.ensures.mark c.in_ok-at.ensures.state c.put_mark.ensures.put
