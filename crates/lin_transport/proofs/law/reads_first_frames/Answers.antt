use Rattle.lin_transport.proofs.FirstFrames.{reads-first}
use Rattle.lin_transport.proofs.law.reads_first_frames.Goals as goal

pub returns : goal.returns
returns c = reads-first
