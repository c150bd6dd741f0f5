use Rattle.std.proofs.Common.{◌≡◌, ◌-◌, ◌≤◌}
use Rattle.std.specs.Prelude.{position}
use Rattle.std.specs.Str.{bytes_eq}
use Rattle.lin_bench.specs.Parts.{fields_of}
use Rattle.lin_bench.proofs.FieldParts.{further}
use Rattle.lin_bench.proofs.fields.Fields.word_at.Given as goal

abbrev pub invariant-loop-field : goal.invariant-loop-field
invariant-loop-field l = record {
  within : l.left.count ≤ l.self.count;
  at : position (λ f. bytes_eq f l.word) (fields_of l.self) ≡ further (l.self.count - l.left.count) (position (λ f. bytes_eq f l.word) (fields_of l.left));
}

abbrev pub decreases-loop-field : goal.decreases-loop-field
decreases-loop-field l = l.left.count
