use Rattle.std.proofs.Common.{◌≡◌, sym, ap}
use Rattle.std.specs.Option.{option_copied}
use Rattle.lin_core.specs.History.{events, reply_events}
use Rattle.lin_bench.specs.Adding.{finish_of}
use Rattle.lin_bench.specs.Rules.{after_events}
use Rattle.lin_bench.proofs.Makes.{newest-past}
use Rattle.lin_bench.proofs.NotedAnswers.{arrived-is, where-ok}
use Rattle.lin_bench.proofs.ruled.RuledCore.react.Goals as goal

pub returns-in-Done-clause-rules : goal.returns-in-Done-clause-rules
returns-in-Done-clause-rules c =
    where-ok c.react_to_events.result
    (λ (all : c.react_to_events.new.rules ≡ after_events (option_copied c.serving-served.result) c.went_to_all.result c.time-time.result c.self.inside.rules c.as_slice.result.now) by past s fin.
    let core = ap (λ a. a.core) c.self.view_is in
    let rules = ap (λ a. a.rules) c.self.view_is in
    let is = newest-past c.args.self.now.core (finish_of c.args.self.now.core past by) c.newest-entry.result.now past fin.newest (rw core at c.newest-entry.ensures) in
    let went = rw is at c.went_to_all.ensures in
    let told : events (finish_of c.args.self.now.core past by) ≡ c.in-Done.events = ap reply_events (rw is at c.in-Done.is) in
    let after = rw (c.serving-served.ensures, c.time-time.ensures, c.as_slice.ensures, core, rules) at all in
    arrived-is c.args.self.now.core by past s c.args.self.now.rules c.went_to_all.result c.react_to_events.new.rules fin went (rw told after))
    c.react_to_events.ensures
