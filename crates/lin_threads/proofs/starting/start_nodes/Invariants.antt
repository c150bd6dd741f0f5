use Rattle.std.proofs.Common.{◌≡◌, ◌≤◌, ◌+◌, ◌++◌, ℕ, List, length, map, vec_len}
use Rattle.std.specs.Global.{Vec}
use Rattle.std.specs.Vec.{vec_capacity}
use Rattle.std.specs.Vec.Iter.{into_iter_items, into_iter_len}
use Rattle.lin_threads.specs.Nodes.{node_lists}
use Rattle.lin_threads.specs.Started.{all_lent, all_lists}
use Rattle.lin_threads.specs.States.{node_state}
use Rattle.lin_threads.proofs.starting.start_nodes.Given as goal

abbrev pub invariant-loop-port : goal.invariant-loop-port
invariant-loop-port g l = record {
  lent : all_lent l.started.items ≡ all_lent l.initial.started.items ++ map node_state l.yielded;
  listed : (taken : List (Vec ℕ)) × (taken ++ into_iter_items l.leave ≡ l.fn.leave.items) × (length taken ≡ length l.yielded)
      × (all_lists l.started.items ≡ all_lists l.initial.started.items ++ node_lists l.yielded taken);
  whole : l.yielded ++ into_iter_items l.port-iterator ≡ l.fn.ports.items;
  lists : into_iter_len l.leave ≡ into_iter_len l.port-iterator;
  room : vec_len l.started + into_iter_len l.port-iterator ≤ vec_capacity l.started;
}
