use Rattle.std.proofs.Common.{◌≡◌, subst}
use Rattle.lin_core.specs.Core.{CoreData, past_of}
use Rattle.lin_core.specs.History.{asleep}
use Rattle.lin_core.proofs.machine.Core.asleep.Goals as goal

pub returns : goal.returns
returns c = subst (λ (d : CoreData). c.self.inside.state.bus.asleep ≡ asleep (past_of d)) c.self.view_is c.self.invariant.late.bus_is.asleep_is
