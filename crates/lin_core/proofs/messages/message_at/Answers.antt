use Rattle.lin_core.proofs.kept.Places.{message-there}
use Rattle.lin_core.proofs.messages.message_at.Goals as goal

pub entry-requires : goal.entry-requires
entry-requires c = message-there c.args.log.now.entries c.args.place c.requires
