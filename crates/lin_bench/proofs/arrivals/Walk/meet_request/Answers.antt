use Rattle.std.proofs.Common.{◌∙◌, ◌+◌, ◌∷◌, sym, ap, zero-add}
use Rattle.lin_bench.specs.Arrivals.{precedes, time_since}
use Rattle.lin_bench.proofs.Walks.{since-finish}
use Rattle.lin_bench.proofs.arrivals.Walk.meet_request.Goals as goal

pub returns-then-finishes-clause-whole : goal.returns-then-finishes-clause-whole
returns-then-finishes-clause-whole c c' past =
    let fin = sym c.finishes.ensures ∙ c.if-finishes.true in
    let none = sym c.tells.ensures ∙ c.if-tells.false in
    let idle = c.requires fin in
    rw (idle, c.if-self.false) (ap (λ n. c.args.self.time + n) (since-finish c' (precedes c.args.earlier) past c.args.entry.now fin none ∙ sym (zero-add (time_since c' (precedes c.args.earlier) (c.args.entry.now ∷ past)))))
