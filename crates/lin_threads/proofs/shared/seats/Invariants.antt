use Rattle.std.proofs.Common.{◌≡◌, ◌≤◌, vec_len, vec_capacity}
use Rattle.lin_threads.proofs.shared.seats.Given as goal

abbrev pub invariant-loop : goal.invariant-loop
invariant-loop l = record {
  count : vec_len l.seats ≡ l.counter;
  room : l.fn.count ≤ vec_capacity l.seats;
}
