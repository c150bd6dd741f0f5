-- What a round adds to the log.
use Rattle.std.specs.Prelude.{◌≡◌, ℕ, ◌≤◌, ◌+◌, true, List, [], ◌∷◌, ◌++◌, length}
use Rattle.lin_parts.specs.Cluster.{nodes}
use Rattle.lin_core.specs.Core.{CoreData, entry_with_reply}
use Rattle.lin_core.specs.Replies.{may}
use Rattle.lin_core.specs.declared.log.LogEntry.{LogEntry}
use Rattle.lin_threads.specs.Steps.{port_at}

-- the core with one more entry
abbrev pub longer_by : CoreData → LogEntry → CoreData
longer_by core e = record core { log = core.log ++ e ∷ [] }

-- each entry is the core's answer to a step that a port of its own put, and the ports stand in
-- their order (hosts by number, then nodes), each once, from one place on and below another
abbrev pub Rising : CoreData → ℕ → ℕ → List LogEntry → Type 0
Rising core from to [] = from ≤ to
Rising core from to (e ∷ es) =
    (i : ℕ)
    × (from ≤ i)
    × (e ≡ entry_with_reply core (port_at (nodes core.cluster) i) e.step)
    × (may e.port e.step ≡ true)
    × Rising (longer_by core e) (i + 1) to es

-- so many entries were added, at most one of each of the first ports, in their order
abbrev pub AddsUpTo : ℕ → CoreData → CoreData → ℕ → Type 0
AddsUpTo ports old new steps =
    (added : List LogEntry) × (new.log ≡ old.log ++ added) × (length added ≡ steps)
    × Rising old 0 ports added

-- so many entries were added, at most one of each port, in their order
abbrev pub RoundAdds : CoreData → CoreData → ℕ → Type 0
RoundAdds old new steps = AddsUpTo (nodes old.cluster + nodes old.cluster) old new steps
