use Rattle.std.proofs.Common.{refl, sym, ap, ◌∙◌}
use Rattle.lin_core.specs.declared.reply.Reply.TheVariants.{Done}
use Rattle.lin_threads.proofs.ports.lane.Lane.tell_entry.Goals as goal

pub returns-in-Done-clause-serves : goal.returns-in-Done-clause-serves
returns-in-Done-clause-serves c base log s at = c.tell_events.ensures.serves c.args.entry.now (c.in-Done.is ∙ ap Done (sym c.as_slice.ensures)) base log s at

pub returns-in-Refused-clause-serves : goal.returns-in-Refused-clause-serves
returns-in-Refused-clause-serves c base log s at = c.tell_refusal.ensures.serves c.args.entry.now refl c.in-Refused.is base log s at
