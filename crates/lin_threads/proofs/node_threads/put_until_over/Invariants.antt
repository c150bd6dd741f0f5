use Rattle.std.proofs.Common.{◌≡◌, ◌≤◌, length}
use Rattle.lin_threads.specs.Ports.{node_put, node_ring, node_took, node_wiring}
use Rattle.lin_threads.proofs.node_threads.put_until_over.Given as goal

abbrev pub invariant-loop : goal.invariant-loop
invariant-loop l = record {
  wiring : node_wiring l.port ≡ node_wiring l.initial.port;
  put : node_put l.port ≡ node_put l.initial.port;
  took : node_took l.port ≡ node_took l.initial.port;
  full : 1 ≤ l.counter → node_ring l.initial.port ≤ length (node_put l.initial.port);
  step : l.step ≡ l.initial.step;
}
