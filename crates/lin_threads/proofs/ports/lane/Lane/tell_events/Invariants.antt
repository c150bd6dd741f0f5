use Rattle.std.proofs.Common.{◌≡◌}
use Rattle.lin_core.specs.declared.log.LogEntry.{LogEntry}
use Rattle.lin_core.specs.declared.reply.Reply.TheVariants.{Done}
use Rattle.lin_threads.specs.Lanes.{ServesNext, SameLane}
use Rattle.lin_threads.proofs.ports.lane.Lane.tell_events.Given as goal

abbrev pub invariant-loop-at : goal.invariant-loop-at
invariant-loop-at l = record {
  same : SameLane l.initial.self l.self;
  seen : l.self.seen ≡ l.initial.self.seen;
  settled : l.self.settled ≡ l.initial.self.settled;
  part : l.self.part ≡ l.at;
  serves : (e : LogEntry) → e.reply ≡ Done l.events → ServesNext l.initial.self e l.self;
}
