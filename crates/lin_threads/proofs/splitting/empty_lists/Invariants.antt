use Rattle.std.proofs.Common.{◌≡◌, ◌≤◌, ℕ, [], length, vec_capacity, vec_len}
use Rattle.lin_threads.specs.Splitting.{list_at}
use Rattle.lin_threads.proofs.splitting.empty_lists.Given as goal

abbrev pub invariant-loop : goal.invariant-loop
invariant-loop l = record {
  count : length l.lists.items ≡ l.counter;
  len : vec_len l.lists ≡ l.counter;
  room : l.fn.hosts ≤ vec_capacity l.lists;
  empty : (host : ℕ) → list_at host l.lists.items ≡ [];
}
