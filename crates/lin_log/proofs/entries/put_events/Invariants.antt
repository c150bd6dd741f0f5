use Rattle.std.proofs.Common.{take, flat_map}
use Rattle.lin_text.specs.Written.{Grows}
use Rattle.lin_log.specs.Language.{plain}
use Rattle.lin_log.specs.Words.{reply_line, event_words}
use Rattle.lin_log.proofs.entries.put_events.Given as goal

abbrev pub invariant-loop-event : goal.invariant-loop-event
invariant-loop-event g l = Grows g.W.Write.contents l.initial.out l.out (flat_map (λ e. reply_line plain (event_words e)) (take l.event-index l.events))
