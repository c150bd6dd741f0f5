use Rattle.lin_threads.proofs.RunLemmas.{advances_round}
use Rattle.lin_threads.proofs.ending.make_last_rounds.Goals as goal

pub returns-in-Ok-clause-advances : goal.returns-in-Ok-clause-advances
returns-in-Ok-clause-advances g c = advances_round _ _ _ c.round.ensures.adds.0 c.loop.invariant c.round.ensures.pump c.round.ensures.stays c.round.ensures.adds.1

pub loop-preserved : goal.loop-preserved
loop-preserved g c = advances_round _ _ _ c.round.ensures.adds.0 c.loop.invariant c.round.ensures.pump c.round.ensures.stays c.round.ensures.adds.1
