use Rattle.std.proofs.Common.{◌∙◌, ◌++◌, take}
use Rattle.std.specs.Prelude.{flat_map}
use Rattle.lin_core.specs.History.{events}
use Rattle.lin_bench.specs.Searches.{taken_by}
use Rattle.lin_bench.proofs.LeftEvents.{message-left, same-pair}
use Rattle.lin_bench.proofs.left_events.is_message_left.Goals as goal

pub returns-in-Message : goal.returns-in-Message
returns-in-Message c = λ es rest known are.
    let e = c.args.event.now in
    let before = flat_map events (take c.args.entry es) ++ c.args.before.now in
    c.is_left.ensures es e rest known are (rw c.in-Message.is (same-pair c.in-Message.from c.in-Message.to c.in-Message.bytes))
    ∙ message-left (taken_by es c.args.taken.now) before e c.in-Message.from c.in-Message.to c.in-Message.bytes c.in-Message.is
