use Rattle.std.proofs.Common.{◌∙◌, ◌<◌, ℕ, subst, sym}
use Rattle.lin_live.proofs.HeldMarks.{goes-to, mark-there, opening-there, within}
use Rattle.lin_live.proofs.hand.Hand.go_to.Goals as goal

pub index-mark-requires : goal.index-mark-requires
index-mark-requires c =
    let a = c.self.inside in
    subst (λ (n : ℕ). c.args.place < n) (sym c.in-Some-take.marks.ok.0)
    (within a.held a.marks c.in-Some.held c.args.self.now c.in-Some-take.marks c.args.place (sym c.take.ensures.value ∙ c.in-Some.is) (sym c.take-2.ensures.value ∙ c.in-Some-take.is)
    c.self.view_is c.requires)

pub back-requires-clause-opening : goal.back-requires-clause-opening
back-requires-clause-opening c =
    let a = c.self.inside in
    opening-there a.held a.marks a.opening c.in-Some.held c.in-Some-take.marks (sym c.take.ensures.value ∙ c.in-Some.is) (sym c.take-2.ensures.value ∙ c.in-Some-take.is) c.self.invariant

pub back-requires-clause-mark : goal.back-requires-clause-mark
back-requires-clause-mark c =
    let a = c.self.inside in
    mark-there a.held a.marks a.opening c.in-Some.held c.args.self.now c.in-Some-take.marks c.args.place c.index-mark.result.now (sym c.take.ensures.value ∙ c.in-Some.is)
    (sym c.take-2.ensures.value ∙ c.in-Some-take.is) c.self.invariant c.self.view_is c.requires c.index-mark.ensures

pub invariant_of-self-2 : goal.invariant_of-self-2
invariant_of-self-2 c =
    let a = c.self.inside in
    (goes-to a.held a.marks a.opening c.in-Some.held c.args.self.now c.in_ok-back.field-0 c.in-Some-take.marks c.truncate.new.self.items c.args.place c.index-mark.result.now
    (sym c.take.ensures.value ∙ c.in-Some.is) (sym c.take-2.ensures.value ∙ c.in-Some-take.is) c.self.invariant c.self.view_is c.requires c.index-mark.ensures c.in_ok-back.ensures c.truncate.ensures.items).1

pub returns : goal.returns
returns c =
    let a = c.self.inside in
    (goes-to a.held a.marks a.opening c.in-Some.held c.args.self.now c.in_ok-back.field-0 c.in-Some-take.marks c.truncate.new.self.items c.args.place c.index-mark.result.now
    (sym c.take.ensures.value ∙ c.in-Some.is) (sym c.take-2.ensures.value ∙ c.in-Some-take.is) c.self.invariant c.self.view_is c.requires c.index-mark.ensures c.in_ok-back.ensures c.truncate.ensures.items).0
