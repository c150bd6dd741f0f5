use Rattle.std.proofs.Common.{ap}
use Rattle.lin_bench.proofs.RuledFinish.{rules-add}
use Rattle.lin_bench.proofs.ruled.RuledCore.add_first.Goals as goal

pub returns : goal.returns
returns c by past s fin began =
    let core = ap (λ a. a.core) c.self.view_is in
    let rules = ap (λ a. a.rules) c.self.view_is in
    rules-add c.args.self.now c.react.new.self c.make_all.new.self by past s c.args.began c.time-time.result c.new-steps.result.items c.give_up.new.steps.items
    c.tell_errors.new.steps.items c.take_noted.new.steps.items c.repeat.new.steps.items c.take_noted.new.noted c.make_all.result fin
    (record {
      core = c.in_ok-react.ensures.core;
      rules = c.in_ok-react.ensures.rules by past s fin;
      began_is = began;
      now_is = rw core at c.time-time.ensures;
    })
    c.new-steps.ensures.items c.in_ok-give_up.ensures (c.in_ok-tell_errors.ensures by past s) (rw rules at c.in_ok-take_noted.ensures.steps) (rw rules at c.in_ok-take_noted.ensures.noted) (rw rules at c.in_ok-repeat.ensures)
    (rw core at c.make_all.ensures.added) (rw rules at c.make_all.ensures.rules)
