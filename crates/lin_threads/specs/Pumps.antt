-- What contracts see of a pump.
use Rattle.std.specs.Prelude.{◌≡◌, ℕ, List, map, drop, Some}
use Rattle.std.specs.List.{slice_get}
use mathlib.Core.List.{IsPrefix}
use Rattle.lin_core.specs.Core.{CoreData, IsAlike}
use Rattle.lin_core.specs.declared.log.LogEntry.{LogEntry}
use Rattle.lin_core.specs.declared.port.PortId.{PortId}
use Rattle.lin_threads.specs.Ports.{Wiring}
use Rattle.lin_threads.specs.Lanes.{IsTold, given_in, lane_wiring}
use Rattle.lin_threads.specs.declared.ports.lane.Lane.{Lane}
use Rattle.lin_threads.specs.declared.ports.pump.Pump.{Pump}
use Rattle.lin_threads.specs.declared.ports.steps.Note.{Note}

abbrev pub core_of : Pump → CoreData
core_of pump = pump.core

-- how many entries the log had when the pump was made, and those that came since
abbrev pub first_entry : Pump → ℕ
first_entry pump = pump.base

abbrev pub since : Pump → List LogEntry
since pump = drop (first_entry pump) (core_of pump).log

-- the ports of the pump, hosts by number and then nodes, and whether a port is one of them
abbrev pub wirings : Pump → List Wiring
wirings pump = map lane_wiring pump.lanes.items

abbrev pub IsWired : Pump → Wiring → Type 0
IsWired pump port = (i : ℕ) × (slice_get (wirings pump) i ≡ Some port)

-- the notes that were pushed to a port so far
abbrev pub given_to : Pump → PortId → List Note
given_to pump port = given_in port pump.lanes.items

-- each port is settled, or was told all its notes, or its ring of notes has no room
abbrev pub AllTold : Pump → Type 0
AllTold pump =
    (i : ℕ) (lane : Lane) → slice_get pump.lanes.items i ≡ Some lane → IsTold (since pump) lane

-- the same pump: its ports, its cluster, and where its log began; the log may have grown
pub record KeepsPump (a b : Pump) : Type 0 where
  pub ports : wirings b ≡ wirings a
  pub alike : IsAlike (core_of a) (core_of b)
  pub start : first_entry b ≡ first_entry a
  pub log : IsPrefix (core_of a).log (core_of b).log
