use Rattle.std.proofs.Common.{◌≡◌, ◌∷◌, ◌++◌, map, take}
use Rattle.lin_core.specs.Replies.{service_events}
use Rattle.lin_core.specs.declared.event.Event.TheVariants.{Slot, Due}
use Rattle.lin_core.proofs.slot.opening_events.Given as goal

abbrev pub invariant-loop-node : goal.invariant-loop-node
invariant-loop-node l = l.events.items ≡ Slot l.fn.place.0 l.fn.place.1 l.fn.header ∷ (service_events l.fn.service ++ map Due (take l.node-index l.due))
