use Rattle.std.proofs.Common.{◌≡◌, ◌≤◌, ◌++◌, ◌-◌, drop, length}
use Rattle.lin_values.specs.Joined.{gaps, joined_span}
use Rattle.lin_values.proofs.layers.fill.Given as goal

abbrev pub invariant-loop-other : goal.invariant-loop-other
invariant-loop-other l = record {
  from : l.at ≤ l.end;
  within : l.end ≤ length l.covered;
  filled : l.parts.items ++ gaps l.next l.span.to l.item (drop l.end l.covered) ≡ l.fn.parts.items ++ gaps l.span.from l.span.to l.item (drop l.at l.covered);
  whole : joined_span l.whole l.span.to (drop l.end l.covered) ≡ joined_span l.span l.span.to (drop l.at l.covered);
}

abbrev pub decreases-loop-other : goal.decreases-loop-other
decreases-loop-other l = length l.covered - l.end
