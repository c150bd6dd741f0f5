use Rattle.std.proofs.Common.{◌≡◌, ◌+◌, ◌++◌, drop}
use Rattle.lin_sections.specs.Requests.{odd_pids}
use Rattle.lin_sections.proofs.requests.add_odd_pids.Given as goal

abbrev pub invariant-loop-k : goal.invariant-loop-k
invariant-loop-k l =
    l.found.items ++ odd_pids l.cluster l.frames l.is_inside (l.first + l.k) (drop l.k l.pids) ≡ l.initial.found.items ++ odd_pids l.cluster l.frames l.is_inside l.first l.pids
