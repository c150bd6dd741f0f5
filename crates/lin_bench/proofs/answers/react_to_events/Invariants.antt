use Rattle.std.proofs.Common.{◌≡◌, drop}
use Rattle.std.specs.Option.{option_copied}
use Rattle.lin_bench.specs.Rules.{after_events}
use Rattle.lin_bench.proofs.answers.react_to_events.Given as goal

abbrev pub invariant-loop-event : goal.invariant-loop-event
invariant-loop-event l =
    after_events (option_copied l.served) l.to_all l.time l.fn.rules l.events ≡ after_events (option_copied l.served) l.to_all l.time l.rules (drop l.event-index l.events)
