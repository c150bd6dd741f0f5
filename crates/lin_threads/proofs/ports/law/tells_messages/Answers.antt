use Rattle.lin_threads.proofs.MessageLemmas.{tells-growth}
use Rattle.lin_threads.proofs.ports.law.tells_messages.Goals as goal

pub returns : goal.returns
returns c = tells-growth
