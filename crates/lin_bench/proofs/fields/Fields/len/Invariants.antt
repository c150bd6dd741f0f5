use Rattle.std.proofs.Common.{◌≡◌, ◌+◌, ◌-◌, ◌≤◌, length}
use Rattle.lin_bench.specs.Parts.{fields_of}
use Rattle.lin_bench.proofs.fields.Fields.len.Given as goal

abbrev pub invariant-loop-rest : goal.invariant-loop-rest
invariant-loop-rest l = record {
  within : l.left.count ≤ l.self.count;
  same : l.self.count - l.left.count + length (fields_of l.left) ≡ length (fields_of l.self);
}

abbrev pub decreases-loop-rest : goal.decreases-loop-rest
decreases-loop-rest l = l.left.count
