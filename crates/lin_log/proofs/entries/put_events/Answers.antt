use Rattle.std.proofs.Common.{arith}
use Rattle.lin_text.proofs.Growing.{grows-next, grows-nothing}
use Rattle.lin_log.specs.Language.{plain}
use Rattle.lin_log.specs.Words.{reply_line, event_words}
use Rattle.lin_log.proofs.entries.put_events.Goals as goal

pub loop-event-init : goal.loop-event-init
loop-event-init g c = grows-nothing c.args.out.now

pub loop-event-preserved : goal.loop-event-preserved
loop-event-preserved g c =
    grows-next (λ e. reply_line plain (event_words e)) c.args.events.now c.loop-event.event-index c.event-item.result c.event-item.is (omega arith) c.loop-event.invariant c.put_event_line.ensures
