-- What a run adds to the log.
use Rattle.std.specs.Prelude.{◌≡◌, ℕ, ◌≤◌, ◌==◌, if◌then◌else◌, List, [], ◌∷◌, ◌++◌, flat_map}
use Rattle.std.specs.Prelude.{length, drop}
use Rattle.std.specs.List.{list_any}
use Rattle.lin_frame.specs.Words.{numbers}
use Rattle.lin_core.specs.declared.log.LogEntry.{LogEntry}
use Rattle.lin_core.specs.declared.port.PortId.{PortId}
use Rattle.lin_core.specs.declared.port.PortId.TheVariants.{Bus}
use Rattle.lin_core.specs.declared.step.Step.{Step}
use Rattle.lin_core.specs.declared.step.Step.TheVariants.{Open, Hurt, Finish}
use Rattle.lin_threads.specs.Ports.{receipt_wiring}
use Rattle.lin_threads.specs.Pumps.{core_of, IsWired, KeepsPump}
use Rattle.lin_threads.specs.Settled.{IsSettled, SameReceipt, StaysSettled}
use Rattle.lin_threads.specs.Steps.{logged}
use Rattle.lin_threads.specs.declared.ports.Receipt.{Receipt}
use Rattle.lin_threads.specs.declared.ports.pump.Pump.{Pump}

-- the slot with this number is damaged, without bytes, where the plan names it
abbrev pub damage : List ℕ → ℕ → List Step
damage hurt k = if list_any (λ n. n == k) hurt then Hurt [] ∷ [] else []

-- the steps of the bus in the slot with this number, and in so many slots
abbrev pub slot_steps : List ℕ → ℕ → List Step
slot_steps hurt k = Open ∷ damage hurt k ++ Finish ∷ []

unfoldable pub bus_steps : List ℕ → ℕ → List Step
bus_steps hurt slots = flat_map (slot_steps hurt) (numbers slots)

-- the same pump with more in its log, of the bus just these steps; what was settled stays so
pub record Advances (a b : Pump) (steps : List Step) : Type 0 where
  pub pump : KeepsPump a b
  pub stays : StaysSettled a b
  pub added : List LogEntry
  pub log : (core_of b).log ≡ (core_of a).log ++ added
  pub bus : logged added Bus ≡ steps

-- each port made at most so many steps since
abbrev pub MakesAtMost : ℕ → Pump → Pump → Type 0
MakesAtMost count a b =
    (port : PortId)
    → length (logged (drop (length (core_of a).log) (core_of b).log) port) ≤ count

-- the receipt of a port of this pump
abbrev pub IsWiredReceipt : Pump → Receipt → Type 0
IsWiredReceipt pump r = IsWired pump (receipt_wiring r)

-- the second receipt is the first one, settled
pub record IsSettledAs (pump : Pump) (r s : Receipt) : Type 0 where
  pub same : SameReceipt r s
  pub settled : IsSettled pump s
