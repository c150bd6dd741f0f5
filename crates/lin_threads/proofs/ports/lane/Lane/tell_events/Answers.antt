use Rattle.std.proofs.Common.{◌≡◌, ◌+◌, ◌≤◌, ℕ, Some, refl, ap, ◌∙◌, length, arith}
use Rattle.std.specs.List.{slice_get}
use Rattle.std.proofs.lemmas.Option.{slice_get_read}
use Rattle.lin_threads.proofs.TellLemmas.{serves_event, serves_last, serves_still, same_tells, tells_none}
use Rattle.lin_threads.proofs.ports.lane.Lane.tell_events.Goals as goal

pub returns-in-Ok-false-clause-serves : goal.returns-in-Ok-false-clause-serves
returns-in-Ok-false-clause-serves c e is base log s at =
    let t = rw c.in-Ok-false.field-0-test at c.in-Ok-false.ensures.told in
    serves_still base log c.loop-at.self c.tell_event.new.self (c.loop-at.invariant.serves e is base log s at) t.0 c.in-Ok-false.ensures.seen t.1

pub returns-in-Err-clause-serves : goal.returns-in-Err-clause-serves
returns-in-Err-clause-serves c e is base log s at =
    let t = c.in-Err.ensures.told in
    serves_still base log c.loop-at.self c.tell_event.new.self (c.loop-at.invariant.serves e is base log s at) t.0 c.in-Err.ensures.seen t.1

pub loop-at-preserved : goal.loop-at-preserved
loop-at-preserved c =
    let inv = c.loop-at.invariant in
    let t = rw c.in-Ok-true.field-0-test at c.in-Ok-true.ensures.told in
    let x = c.index-events-at.result in
    let here : slice_get c.args.events.now c.loop-at.self.part ≡ Some x = rw inv.part (slice_get_read c.args.events.now _ c.loop-at.at x refl c.loop-at-test.true c.index-events-at.is) in
    record {
      same = same_tells c.args.self.now c.loop-at.self c.tell_event.new.self _ inv.same t.0;
      seen = c.in-Ok-true.ensures.seen ∙ inv.seen;
      settled = t.0.settled ∙ inv.settled;
      part = t.1 ∙ ap (λ (k : ℕ). k + 1) inv.part;
      serves = λ e is base log s at.
          serves_event base log e c.args.events.now x c.loop-at.self c.tell_event.new.self (inv.serves e is base log s at) (rw inv.seen at) is here t.0 c.in-Ok-true.ensures.seen t.1;
    }

pub returns-clause-serves : goal.returns-clause-serves
returns-clause-serves c e is base log s at =
    let inv = c.loop-at.invariant in
    let full : length c.args.events.now ≤ c.loop-at.self.part = (let p = inv.part in let q = c.loop-at-test.false in omega arith) in
    serves_last base log e c.args.events.now c.loop-at.self _ (inv.serves e is base log s at) (rw inv.seen at) is full (tells_none c.loop-at.self _ refl refl refl refl refl) refl refl
