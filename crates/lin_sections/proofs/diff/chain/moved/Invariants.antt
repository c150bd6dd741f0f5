use Rattle.std.proofs.Common.{◌≡◌, ◌≤◌, true, length}
use Rattle.std.specs.Prelude.{replicate}
use Rattle.lin_sections.specs.Moved.{chain, moved_flags, without_marks}
use Rattle.lin_sections.proofs.diff.chain.moved.Given as goal

abbrev pub invariant-loop-place : goal.invariant-loop-place
invariant-loop-place l = l.moved.items ≡ replicate l._place-index true

abbrev pub invariant-loop-links : goal.invariant-loop-links
invariant-loop-links l = record {
  rest : moved_flags l.places ≡ without_marks l.moved.items (chain l.places l.lengths.items l.links l.count l.end);
  number : length l.moved.items ≡ length l.places;
  count : l.count ≤ length l.places;
}

abbrev pub decreases-loop-links : goal.decreases-loop-links
decreases-loop-links l = l.links
