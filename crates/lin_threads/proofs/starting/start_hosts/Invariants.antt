use Rattle.std.proofs.Common.{◌≡◌, ◌≤◌, ◌+◌, ◌++◌, map, vec_len}
use Rattle.std.specs.Vec.{vec_capacity}
use Rattle.std.specs.Vec.Iter.{into_iter_len}
use Rattle.lin_threads.specs.Nodes.{no_lists}
use Rattle.lin_threads.specs.Started.{all_lent, all_lists}
use Rattle.lin_threads.specs.States.{host_state}
use Rattle.lin_threads.proofs.starting.start_hosts.Given as goal

abbrev pub invariant-loop-port : goal.invariant-loop-port
invariant-loop-port g l = record {
  lent : all_lent l.started.items ≡ all_lent l.initial.started.items ++ map host_state l.yielded;
  lists : all_lists l.started.items ≡ all_lists l.initial.started.items ++ no_lists l.yielded;
  tasks : into_iter_len l.tasks ≡ into_iter_len l.port-iterator;
  room : vec_len l.started + into_iter_len l.port-iterator ≤ vec_capacity l.started;
  capacity : vec_capacity l.started ≡ vec_capacity l.initial.started;
}
