use Rattle.std.proofs.Common.{◌≡◌, drop}
use Rattle.std.specs.Prelude.{find}
use Rattle.std.specs.Str.{bytes_eq}
use Rattle.lin_sections.proofs.requests.event_pid.Given as goal

abbrev pub invariant-loop-event : goal.invariant-loop-event
invariant-loop-event l =
    find (λ f. bytes_eq f.name l.name) l.cluster.events ≡ find (λ f. bytes_eq f.name l.name) (drop l.event l.cluster.events)
