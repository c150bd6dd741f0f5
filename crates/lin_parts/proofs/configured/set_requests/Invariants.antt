use Rattle.std.proofs.Common.{◌≡◌, take}
use Rattle.lin_parts.specs.Configured.{changed_items, line_with}
use Rattle.lin_parts.proofs.configured.set_requests.Given as goal

abbrev pub invariant-loop-k : goal.invariant-loop-k
invariant-loop-k l = l.lines ≡ changed_items line_with l.fn.lines (take l.k l.requests)
