use Rattle.lin_threads.proofs.StateLemmas.{further_refl, further_turn}
use Rattle.lin_threads.proofs.hosts.take_turns.Goals as goal

pub loop-init : goal.loop-init
loop-init g c = further_refl _

pub returns-in-Done : goal.returns-in-Done
returns-in-Done g c = further_turn _ _ _ c.loop.invariant c.turn.ensures

pub loop-preserved : goal.loop-preserved
loop-preserved g c = further_turn _ _ _ c.loop.invariant c.turn.ensures
