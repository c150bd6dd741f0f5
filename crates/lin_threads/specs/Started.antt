-- Threads that were started.
use Rattle.std.specs.Prelude.{ℕ, List, map, Option, Some, None}
use Rattle.std.specs.declared.thread.PromisedHandle.{PromisedHandle}
use Rattle.lin_threads.specs.declared.ports.node_port.NodePort.{NodePort}
use Rattle.lin_threads.specs.States.{PortState, host_state, node_state}
use Rattle.lin_threads.specs.declared.starting.Finished.{Finished}
use Rattle.lin_threads.specs.declared.starting.Keeps.{Keeps}
use Rattle.lin_threads.specs.declared.starting.Keeps.TheVariants.{Host, Node}

-- the port that a thread was lent, as it was then
abbrev pub lent : Keeps → PortState
lent (Host port) = host_state port.value
lent (Node port leave) = node_state port.value

abbrev pub all_lent : List (PromisedHandle Finished Keeps) → List PortState
all_lent handles = map (λ h. lent h.promise) handles

-- the node's port that a thread was lent, with its list of left-out slots
abbrev pub list_lent : Keeps → Option (NodePort × List ℕ)
list_lent (Host port) = None
list_lent (Node port leave) = Some (port.value, leave.value.items)

abbrev pub all_lists : List (PromisedHandle Finished Keeps) → List (Option (NodePort × List ℕ))
all_lists handles = map (λ h. list_lent h.promise) handles
