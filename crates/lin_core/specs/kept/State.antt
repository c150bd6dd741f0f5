-- No promise rests on this: the state that is kept, and what a step makes of it.
use Rattle.std.specs.Prelude.{Result, MatchResult, ◌≡◌, ◌+◌, ◌*◌, ◌-◌, ◌^◌, ◌≤◌, ◌<◌, ℕ, List, []}
use Rattle.std.specs.Prelude.{◌∷◌, ◌++◌, length, map, reverse, slice_get, Option, Some, None}
use Rattle.std.specs.Prelude.{option_map}
use Rattle.lin_parts.specs.Cluster.{line_of, nodes}
use Rattle.lin_parts.specs.Rules.{IsCluster}
use Rattle.lin_parts.specs.Sound.{IsSound}
use Rattle.lin_schedule.specs.Schedule.{Move}
use Rattle.lin_schedule.specs.Schedule.Move.{Slot as SlotMove}
use Rattle.lin_schedule.specs.Walker.{Position, Stands, Walks}
use Rattle.lin_core.specs.Core.{CoreData, IsAllowed, IsHistory}
use Rattle.lin_core.specs.History.{is_clash, open_slot, time, LogEntry, Step, Parts}
use Rattle.lin_core.specs.Logs.{LogData}
use Rattle.lin_core.specs.Replies.{done_events}
use Rattle.lin_core.specs.Slots.{moves, responses_after}
use Rattle.lin_core.specs.kept.Slots.{slot_in, IsOpenSlot, IsThere}
use Rattle.lin_core.specs.kept.Signals.{EndsSlot, KeepsSignals}
use Rattle.lin_core.specs.kept.Hosts.{KeepsHost, KeepsSender}
use Rattle.lin_core.specs.kept.Receivers.{KeepsHeard}
use Rattle.lin_core.specs.kept.Bus.{KeepsBus, bus_after}
use Rattle.lin_core.specs.kept.Ready.{KeepsReady, response_in}
use Rattle.lin_core.specs.declared.bus_state.BusState.{BusState}
use Rattle.lin_core.specs.declared.event.Event.{Event}
use Rattle.lin_core.specs.declared.host.Host.{Host}
use Rattle.lin_core.specs.declared.machine.Core.TheInside.{Inside}
use Rattle.lin_core.specs.declared.port.PortId.{PortId}
use Rattle.lin_core.specs.declared.reply.Reply.TheVariants.{Done}
use Rattle.lin_core.specs.declared.setup.Setup.{Setup}
use Rattle.lin_core.specs.declared.signals.Signals.{Signals}
use Rattle.lin_core.specs.declared.slot.OpenSlot.{OpenSlot}
use Rattle.lin_core.specs.declared.state.State.{State}
use Rattle.lin_core.specs.declared.step.SendStep.{SendStep}
use Rattle.lin_core.specs.declared.step.Step.TheVariants.{Send, Write}
use Rattle.lin_core.specs.declared.step.WriteStep.{WriteStep}

-- the open slot, the time, the walker, the queues and the signals are those of this log, whose
-- newest entry stands first in `past`
pub record Keeps (c : Parts) (opening capacity : ℕ) (log past : List LogEntry)
    (slot : Option OpenSlot) (clock : ℕ) (walker : Position) (hosts : List Host)
    (signals : Signals) : Type 0 where
  pub slot_is : IsOpenSlot slot past
  pub slot_there : IsThere c slot
  pub clock_is : clock ≡ time c past
  pub clock_few : time c past ≤ 10 ^ 9 * length past
  pub stands : Stands c opening walker (moves past)
  pub walks : Walks c walker
  pub hosts_count : length hosts ≡ nodes c
  pub each_host : (h : ℕ) (host : Host) → slice_get hosts h ≡ Some host
      → KeepsHost c capacity log past h host
  pub signals_are : KeepsSignals c past slot signals

-- and the bus, and the senders
pub record KeepsLate (c : Parts) (past : List LogEntry) (bus : BusState)
    (hosts : List Host) : Type 0 where
  pub bus_is : KeepsBus c past bus
  pub each_sender : (h : ℕ) (host : Host) → slice_get hosts h ≡ Some host
      → KeepsSender c past h host

-- the end of a slot: it is closed, its delay is over, and the schedule and the bus go on
pub record ClosesSlot (c : Parts) (slot : OpenSlot) (old new : State) : Type 0 where
  pub shut : new.slot ≡ None
  pub clock : new.time ≡ old.time + (line_of c slot.table slot.entry).delay_us
  pub few : (line_of c slot.table slot.entry).delay_us ≤ 1000000000
  pub stands : (opening : ℕ) (moves : List Move) → Stands c opening old.walker moves
      → Stands c opening new.walker (SlotMove (is_clash (slot_in slot)) ∷ moves)
  pub walks : Walks c new.walker
  pub signals : EndsSlot c slot old.signals new.signals
  pub bus : new.bus ≡ bus_after c (slot_in slot) old.bus
  pub ready : map response_in new.ready.items
      ≡ responses_after c (slot_in slot) (map response_in old.ready.items)
  pub ready_few : length new.ready.items ≤ 16

-- what the core was opened with, the log, and what is kept of it
pub record Stage : Type 0 where
  pub cluster : Parts
  pub opening : ℕ
  pub capacity : ℕ
  pub log : List LogEntry
  pub state : State

abbrev pub stage : Setup → LogData → State → Stage
stage setup log state = record {
  cluster = setup.cluster;
  opening = setup.opening;
  capacity = setup.capacity;
  log = log.entries;
  state = state;
}

-- what contracts see of it, but for the room that was made
abbrev pub stage_data : Stage → CoreData
stage_data a = record {
  cluster = a.cluster;
  opening = a.opening;
  capacity = a.capacity;
  log = a.log;
  spare = 0;
}

-- the log is the history of its steps, and the state is that of the log
pub record IsConsistent (a : Stage) : Type 0 where
  pub few : length a.log < 2 ^ 32
  pub rules : IsCluster a.cluster
  pub sound : IsSound a.cluster
  pub opening : a.opening < length a.cluster.tables
  pub kept : Keeps a.cluster a.opening a.capacity a.log
      (reverse a.log) a.state.slot a.state.time a.state.walker a.state.hosts.items a.state.signals
  pub late : KeepsLate a.cluster (reverse a.log) a.state.bus a.state.hosts.items
  pub heard : KeepsHeard a.cluster (reverse a.log) a.state.receivers.items
  pub ready : KeepsReady a.cluster (reverse a.log) a.state.ready.items
  pub history : IsHistory (stage_data a)

abbrev pub IsWhole : Inside → Type 0
IsWhole a = IsConsistent (stage a.setup a.log a.state)

-- there is a place in the log for the step, which isn't refused
pub record IsStepReady (a : Stage) (by : PortId) (step : Step) : Type 0 where
  pub whole : IsConsistent a
  pub allowed : IsAllowed (stage_data a) by step
  pub few : length a.log < 2 ^ 32 - 1

-- the entry of a step that is done
abbrev pub done_of : Stage → PortId → Step → LogEntry
done_of a by step = record {
  port = by;
  step = step;
  reply = Done (done_events a.cluster a.opening (reverse a.log) by step);
}

-- a step was made: its events are those that are due, and the state is that of the log with one
-- more entry
pub record IsExecuted (a : Stage) (by : PortId) (step : Step) (events : List Event)
    (new : State) : Type 0 where
  pub told : events ≡ done_events a.cluster a.opening (reverse a.log) by step
  pub kept : Keeps a.cluster a.opening a.capacity (a.log ++ done_of a by step ∷ [])
      (done_of a by step ∷ reverse a.log) new.slot new.time new.walker new.hosts.items new.signals
  pub late : KeepsLate a.cluster (done_of a by step ∷ reverse a.log) new.bus new.hosts.items
  pub heard : KeepsHeard a.cluster (done_of a by step ∷ reverse a.log) new.receivers.items
  pub ready : KeepsReady a.cluster (done_of a by step ∷ reverse a.log) new.ready.items

-- a step was made, or there was no memory, and what is kept is still that of the log
abbrev pub ExecutesStep : {E : Type 0} → Stage → PortId → Step → Result (List Event) E → State → Type 0
ExecutesStep a by step result new =
    MatchResult result (λ events. IsExecuted a by step events new)
    (λ e. IsConsistent (record a { state = new }))

-- the steps of a message that is sent, and of a value that is written
abbrev pub send_step : SendStep → Step
send_step sent = Send sent.from sent.to sent.message.now

abbrev pub write_step : WriteStep → Step
write_step written = Write written.node written.signal written.value.now
