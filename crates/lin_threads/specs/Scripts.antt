-- What a turn of a script's task does.
use Rattle.std.specs.Prelude.{◌≡◌, Bool, true, false, List, [], ◌∷◌, ◌++◌, map}
use Rattle.lin_threads.specs.Ports.{host_put, by_port}
use Rattle.lin_threads.specs.declared.ports.host_port.HostPort.{HostPort}
use Rattle.lin_threads.specs.declared.ports.steps.HostStep.{HostStep}
use Rattle.lin_threads.specs.declared.tasks.Turn.{Turn}
use Rattle.lin_threads.specs.declared.tasks.Turn.TheVariants.{Again, Done}

-- the first of these steps were put into the port, and the others are left
abbrev pub PutsFirst : List HostStep → List HostStep → HostPort → HostPort → Type 0
PutsFirst steps left old new =
    (first : List HostStep) × (steps ≡ first ++ left)
    × (host_put new ≡ host_put old ++ map (by_port old) first)

-- a script's task is done once nothing is left and the run is over
abbrev pub turn_with : List HostStep → Bool → Turn
turn_with [] true = Done
turn_with [] false = Again
turn_with (step ∷ steps) over = Again
