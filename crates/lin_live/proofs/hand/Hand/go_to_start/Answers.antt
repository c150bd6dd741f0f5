use Rattle.std.proofs.Common.{◌∙◌, reverse, sym}
use Rattle.lin_live.proofs.HeldMarks.{opening-there, start-its, starts}
use Rattle.lin_live.proofs.hand.Hand.go_to_start.Goals as goal

pub back-requires-clause-opening : goal.back-requires-clause-opening
back-requires-clause-opening c =
    let a = c.self.inside in
    opening-there a.held a.marks a.opening c.in-Some.held c.in-Some-take.marks (sym c.take.ensures.value ∙ c.in-Some.is) (sym c.take-2.ensures.value ∙ c.in-Some-take.is) c.self.invariant

pub invariant_of-self-2 : goal.invariant_of-self-2
invariant_of-self-2 c =
    let a = c.self.inside in
    start-its a.held a.marks a.opening c.in-Some.held c.in_ok-back.field-0 c.in-Some-take.marks c.clear.new.self.items c.start-start.result (sym c.take.ensures.value ∙ c.in-Some.is) (sym c.take-2.ensures.value ∙ c.in-Some-take.is)
    c.self.invariant c.in_ok-back.ensures (c.start-start.ensures.state (reverse c.in-Some.held.bench.past)) c.clear.ensures.items

pub returns : goal.returns
returns c =
    let a = c.self.inside in
    starts a.held a.marks c.in-Some.held c.args.self.now c.in_ok-back.field-0 c.clear.new.self.items c.start-start.result (sym c.take.ensures.value ∙ c.in-Some.is) c.self.view_is
    c.in_ok-back.ensures (c.start-start.ensures.state (reverse c.in-Some.held.bench.past)) c.clear.ensures.items
