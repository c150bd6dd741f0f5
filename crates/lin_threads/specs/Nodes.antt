-- What a node puts for the slots in which it is due.
use Rattle.std.specs.Prelude.{◌≡◌, ℕ, ◌≤◌, ◌+◌, ◌==◌, if◌then◌else◌, Bool, true, false, List, []}
use Rattle.std.specs.Prelude.{◌∷◌, ◌++◌, ◌⊎◌, length, map, count_by, Option, Some, None, ⊤}
use Rattle.std.specs.Global.{Vec}
use Rattle.std.specs.List.{list_any, zip}
use Rattle.lin_core.specs.declared.event.Event.TheVariants as event
use Rattle.lin_threads.specs.Ports.{by_node_port, node_put, node_ring, node_took}
use Rattle.lin_threads.specs.declared.ports.host_port.HostPort.{HostPort}
use Rattle.lin_threads.specs.declared.ports.node_port.NodePort.{NodePort}
use Rattle.lin_threads.specs.declared.ports.Receipt.{Receipt}
use Rattle.lin_threads.specs.declared.ports.steps.NodeStep.{NodeStep}
use Rattle.lin_threads.specs.declared.ports.steps.NodeStep.TheVariants.{Answer, Leave}
use Rattle.lin_threads.specs.declared.ports.steps.Note.{Note}
use Rattle.lin_threads.specs.declared.ports.steps.Note.TheVariants as note
use Rattle.lin_threads.specs.States.{PortState, receipt_state}

-- what a node does in the slot that has this number among those in which it is due, from 0: it
-- leaves its response out where its list names that number
abbrev pub step_in : List ℕ → ℕ → NodeStep
step_in leave number = if list_any (λ n. n == number) leave then Leave else Answer

-- whether a note says that the node is due, and how many of these notes do
abbrev pub is_due_note : Note → Bool
is_due_note (note.Event (event.Due n)) = true
is_due_note n = false

abbrev pub dues : List Note → ℕ
dues notes = count_by is_due_note notes

-- these are steps for slots with numbers from one on and below another, in order and at most one
-- for each
abbrev pub AreStepsIn : List ℕ → ℕ → ℕ → List NodeStep → Type 0
AreStepsIn leave from to [] = from ≤ to
AreStepsIn leave from to (step ∷ steps) =
    (number : ℕ) × (from ≤ number) × (step ≡ step_in leave number)
    × AreStepsIn leave (number + 1) to steps

-- a step was put into the port, or nothing, where at least as many were put as its ring takes
abbrev pub PutsUnlessFull : NodeStep → NodePort → NodePort → Type 0
PutsUnlessFull step a b =
    (node_put b ≡ node_put a ++ by_node_port a step ∷ [])
    ⊎ ((node_put b ≡ node_put a) × (node_ring a ≤ length (node_put a)))

-- what a node's port took and put since: for the slots that its notes told it of, so many, what its
-- list says; for each of them unless at least as many steps were put as its ring takes
pub record FollowsList (leave : List ℕ) (count : ℕ) (port : NodePort)
    (since : PortState) : Type 0 where
  pub notes : List Note
  pub took : since.took ≡ node_took port ++ notes
  pub due : dues notes ≡ count
  pub steps : List NodeStep
  pub put : since.put ≡ node_put port ++ map (by_node_port port) steps
  pub listed : AreStepsIn leave 0 count steps
  pub each : (length steps ≡ count) ⊎ (node_ring port ≤ length since.put)

-- of the ports that a run is handed: nothing for each host's, and each node's with its list
abbrev pub no_lists : List HostPort → List (Option (NodePort × List ℕ))
no_lists hosts = map (λ p. None) hosts

abbrev pub node_lists : List NodePort → List (Vec ℕ) → List (Option (NodePort × List ℕ))
node_lists nodes leave = map (λ own. Some (own.0, own.1.items)) (zip nodes leave)

-- the receipt of a node's port took and put since what its list says; of a host's nothing is said
abbrev pub IsByList : Option (NodePort × List ℕ) → Receipt → Type 0
IsByList None r = ⊤
IsByList (Some own) r = (due : ℕ) × FollowsList own.1 due own.0 (receipt_state r)
