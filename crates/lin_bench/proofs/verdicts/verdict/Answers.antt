use Rattle.std.proofs.Common.{◌∙◌, ap}
use Rattle.lin_bench.specs.Verdicts.{verdict, within_verdict}
use Rattle.lin_bench.proofs.verdicts.verdict.Goals as goal

pub returns-in_ok-event-in-Message-clause-verdict : goal.returns-in_ok-event-in-Message-clause-verdict
unfolding verdict
returns-in_ok-event-in-Message-clause-verdict c =
    let event = rw (c.core-core.ensures, c.messages.ensures) at c.in_ok-event-in-Message.ensures.event in
    rw (c.in-Message.is, ← event) c.message.ensures

pub returns-in_ok-event-in-NoMessage-clause-verdict : goal.returns-in_ok-event-in-NoMessage-clause-verdict
unfolding verdict
returns-in_ok-event-in-NoMessage-clause-verdict c =
    let event = rw (c.core-core.ensures, c.messages-in-NoMessage.ensures) at c.in_ok-event-in-NoMessage.ensures.event in
    rw (c.in-NoMessage.is, ← event) c.no_message.ensures

pub returns-in_ok-message-in-MessageWithin-clause-verdict : goal.returns-in_ok-message-in-MessageWithin-clause-verdict
unfolding verdict
returns-in_ok-message-in-MessageWithin-clause-verdict c =
    let core = c.core-core.ensures in
    let event = rw (core, c.messages-in-MessageWithin.ensures) at c.in_ok-event-in-MessageWithin.ensures.event in
    let took = rw core at c.time_taken-took.ensures in
    rw (c.in-MessageWithin.is, ← event, ← took)
    (c.within.ensures ∙ ap (within_verdict c.in-MessageWithin.most_ms c.time_taken-took.result) c.in_ok-message-in-MessageWithin.ensures)

pub returns-in_ok-message-in-MessageWithin-clause-taken : goal.returns-in_ok-message-in-MessageWithin-clause-taken
returns-in_ok-message-in-MessageWithin-clause-taken c =
    rw c.in-MessageWithin.is (rw (c.core-core.ensures, c.messages-in-MessageWithin.ensures) at c.in_ok-event-in-MessageWithin.ensures.taken)
