use Rattle.std.proofs.Common.{◌≡◌, take}
use Rattle.lin_parts.specs.Configured.{changed_items, table_with}
use Rattle.lin_parts.proofs.configured.with_requests.Given as goal

abbrev pub invariant-loop-k : goal.invariant-loop-k
invariant-loop-k l = l.tables.items ≡ changed_items table_with l.fn.tables.items (take l.k l.requests)
