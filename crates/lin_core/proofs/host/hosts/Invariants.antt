use Rattle.std.proofs.Common.{◌≡◌, length}
use Rattle.std.specs.Prelude.{All}
use Rattle.lin_core.specs.kept.Hosts.{new_host}
use Rattle.lin_core.proofs.host.hosts.Given as goal

abbrev pub invariant-loop : goal.invariant-loop
invariant-loop l = record {
  made : length l.hosts.items ≡ l.counter;
  are_fresh : All (λ host. host ≡ new_host l.capacity) l.hosts.items;
}
