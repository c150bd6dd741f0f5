use Rattle.std.proofs.Common.{◌≡◌, ◌≤◌, length, map, take}
use Rattle.lin_core.specs.kept.Ready.{node_in}
use Rattle.lin_core.proofs.ready.nodes_of.Given as goal

abbrev pub invariant-loop-response : goal.invariant-loop-response
invariant-loop-response l = record {
  nodes : l.nodes.items ≡ map node_in (take l.response-index l.ready);
  few : length l.nodes.items ≤ l.response-index;
}
