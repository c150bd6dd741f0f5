use Rattle.std.proofs.Common.{◌≡◌, ◌∙◌, ap, arith, false}
use Rattle.std.specs.Prelude.{nat_eq, nat_le}
use Rattle.std.proofs.lemmas.Bool.Decides.{nat_tests}
use Rattle.lin_bench.proofs.FirstEvents.{left-apart, left-here}
use Rattle.lin_bench.proofs.left_events.is_left.Goals as goal

pub returns-then-entry-end : goal.returns-then-entry-end
returns-then-entry-end c = λ es e rest known are is.
    ap (nat_le c.last_end-end.result.events) c.count_of.ensures
    ∙ left-here es c.args.taken.now c.args.kind c.args.entry c.args.before.now e rest c.last_end-end.result known are is c.last_end-end.ensures c.if-entry-end.true

pub returns : goal.returns
returns c = λ es e rest known are is.
    let other : nat_eq c.args.entry c.last_end-end.result.entry ≡ false = grind (arith, nat_tests, c.if-entry-end.false) in
    left-apart es c.args.taken.now c.args.kind c.args.entry c.args.before.now e rest c.last_end-end.result known are is c.last_end-end.ensures other
