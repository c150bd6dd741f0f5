use Rattle.lin_threads.proofs.MessageLemmas.{begins-growths}
use Rattle.lin_threads.proofs.ports.law.taken_messages.Goals as goal

pub returns : goal.returns
returns c = begins-growths
