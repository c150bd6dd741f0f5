use Rattle.std.proofs.Common.{◌≡◌, ◌-◌, ◌<◌, ℕ, false}
use Rattle.std.specs.Prelude.{◌==◌, ◌&&◌, slice_index}
use Rattle.lin_sections.specs.Moved.{is_below}
use Rattle.lin_sections.proofs.diff.chain.link.Given as goal

abbrev pub invariant-loop-number : goal.invariant-loop-number
invariant-loop-number l =
    (i : ℕ) → i < l.number → i < l.count
    → (slice_index l.lengths i == l.links && is_below (slice_index l.places i) l.end) ≡ false

abbrev pub decreases-loop-number : goal.decreases-loop-number
decreases-loop-number l = l.count - l.number
