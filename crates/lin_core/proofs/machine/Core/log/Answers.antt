use Rattle.std.proofs.Common.{subst}
use Rattle.lin_core.specs.Core.{CoreData, past_of, core_data}
use Rattle.lin_core.specs.Promises.{CarriesFrames, DeliversExactly, FatesAreFinal, LosesNothing, PutsInOrder, StaysClosed}
use Rattle.lin_core.proofs.laws.Laws.{log-carries, log-closed, log-delivers, log-final, log-in-order, log-loses-nothing}
use Rattle.lin_core.proofs.machine.Core.log.Goals as goal

pub returns-clause-exact_delivery : goal.returns-clause-exact_delivery
returns-clause-exact_delivery c = subst (λ (d : CoreData). DeliversExactly d.cluster (past_of d)) c.self.view_is (log-delivers (core_data c.self.inside) c.self.invariant.sound c.self.invariant.history)

pub returns-clause-blocks_are_prefixes : goal.returns-clause-blocks_are_prefixes
returns-clause-blocks_are_prefixes c = subst (λ (d : CoreData). PutsInOrder d.cluster (past_of d)) c.self.view_is (log-in-order (core_data c.self.inside) c.self.invariant.sound c.self.invariant.history)

pub returns-clause-one_final_fate : goal.returns-clause-one_final_fate
returns-clause-one_final_fate c = subst (λ (d : CoreData). FatesAreFinal d.cluster (past_of d)) c.self.view_is (log-final (core_data c.self.inside) c.self.invariant.sound c.self.invariant.history)

pub returns-clause-slots_carry_frames : goal.returns-clause-slots_carry_frames
returns-clause-slots_carry_frames c = subst (λ (d : CoreData). CarriesFrames d.cluster d.opening (past_of d)) c.self.view_is (log-carries (core_data c.self.inside) c.self.invariant.history)

pub returns-clause-nothing_lost : goal.returns-clause-nothing_lost
returns-clause-nothing_lost c = subst (λ (d : CoreData). LosesNothing d.cluster (past_of d)) c.self.view_is (log-loses-nothing (core_data c.self.inside) c.self.invariant.sound c.self.invariant.history)

pub returns-clause-nothing_after_close : goal.returns-clause-nothing_after_close
returns-clause-nothing_after_close c = subst (λ (d : CoreData). StaysClosed (past_of d)) c.self.view_is (log-closed (core_data c.self.inside) c.self.invariant.history)
