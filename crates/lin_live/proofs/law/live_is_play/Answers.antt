use Rattle.lin_live.proofs.Plays.{live-is-play}
use Rattle.lin_live.proofs.law.live_is_play.Goals as goal

pub returns : goal.returns
returns c = live-is-play
