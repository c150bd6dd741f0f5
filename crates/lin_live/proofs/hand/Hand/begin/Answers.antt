use Rattle.std.proofs.Common.{refl}
use Rattle.std.specs.Prelude.{option_map}
use Rattle.lin_live.proofs.HeldMarks.{begins, begun-its}
use Rattle.lin_live.proofs.hand.Hand.begin.Goals as goal

pub invariant_of-self-2 : goal.invariant_of-self-2
invariant_of-self-2 c =
    let a = c.self.inside in
    begun-its a.held a.marks a.marks a.opening c.in-Some.held c.begin.new.self refl c.in-Some.is c.self.invariant c.begin.ensures.begun

pub returns : goal.returns
returns c =
    let a = c.self.inside in
    let p = begins a.held a.marks c.in-Some.held c.args.self.now c.begin.new.self (option_map (λ l. l.now) c.args.line) (option_map (λ l. l.now) c.begin.result) c.in-Some.is c.self.view_is
    c.begin.ensures.line c.begin.ensures.begun in
    record { line = p.0; begun = p.1 }
