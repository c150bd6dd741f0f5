-- What a fault says of the pump.
use Rattle.std.proofs.Common.{Result, Ok, Err, IfErr}
use Rattle.lin_threads.specs.Pumps.{KeepsPump}
use Rattle.lin_threads.specs.declared.ports.pump.Pump.{Pump}
use Rattle.lin_threads.proofs.RoundLemmas.{pump_trans}
use Rattle.lin_threads.specs.Faults.{StopsFor}
use Rattle.lin_threads.specs.declared.runs.RunFault.{RunFault}

-- the last of several calls ended with a fault
pub stops_after : {X : Type 0} (a b c : Pump) (r : Result X RunFault) → KeepsPump a b → IfErr r (λ e. StopsFor b c e) → IfErr r (λ e. StopsFor a c e)
stops_after a b c (Ok x) pump h = h
stops_after a b c (Err e) pump h = record { pump = pump_trans a b c pump h.pump; full = h.full; started = h.started }
