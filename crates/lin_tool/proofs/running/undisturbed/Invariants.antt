use Rattle.std.proofs.Common.{◌≡◌, ◌≤◌, [], vec_len, vec_capacity}
use Rattle.std.specs.List.{All}
use Rattle.lin_tool.proofs.running.undisturbed.Given as goal

abbrev pub invariant-loop : goal.invariant-loop
invariant-loop l = record {
  count : vec_len l.leave ≡ l.counter;
  room : l.fn.nodes ≤ vec_capacity l.leave;
  none : All (λ own. own.items ≡ []) l.leave.items;
}
