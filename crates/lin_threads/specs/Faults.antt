-- The fault of a run, by what ended it.
use Rattle.std.specs.Prelude.{◌≡◌, ◌≢◌, ◌-◌, ◌^◌, length}
use Rattle.lin_core.specs.declared.hold.Hold.{Hold}
use Rattle.lin_core.specs.declared.hold.Hold.TheVariants as hold
use Rattle.lin_threads.specs.Pumps.{core_of, KeepsPump}
use Rattle.lin_threads.specs.declared.ports.pump.Pump.{Pump}
use Rattle.lin_threads.specs.declared.ports.pump.RoundFault.{RoundFault}
use Rattle.lin_threads.specs.declared.ports.pump.RoundFault.TheVariants as round
use Rattle.lin_threads.specs.declared.runs.RunFault.{RunFault}
use Rattle.lin_threads.specs.declared.runs.RunFault.TheVariants.{LogFull, NoThread, OutOfMemory}

-- of a round that ended early
abbrev pub of_round : RoundFault → RunFault
of_round round.LogFull = LogFull
of_round round.OutOfMemory = OutOfMemory

-- of a step that was held
abbrev pub of_hold : Hold → RunFault
of_hold (hold.LogFull step) = LogFull
of_hold (hold.OutOfMemory step) = OutOfMemory

-- the slots, the last rounds or the settling ended with this fault: the log is full where the fault
-- says so, and it never says that a thread wasn't started
pub record StopsFor (a b : Pump) (fault : RunFault) : Type 0 where
  pub pump : KeepsPump a b
  pub full : fault ≡ LogFull → length (core_of b).log ≡ 2 ^ 32 - 1
  pub started : fault ≢ NoThread

-- a run ended with this fault: the log is full where the fault says so, and no step was made where
-- a thread wasn't started
pub record EndsFor (a b : Pump) (fault : RunFault) : Type 0 where
  pub pump : KeepsPump a b
  pub full : fault ≡ LogFull → length (core_of b).log ≡ 2 ^ 32 - 1
  pub idle : fault ≡ NoThread → core_of b ≡ core_of a

-- so did a run whose pump isn't handed back
abbrev pub IsFaultOf : Pump → RunFault → Type 0
IsFaultOf pump fault = (left : Pump) × EndsFor pump left fault
