use Rattle.std.proofs.Common.{◌≡◌, ◌+◌, ◌<◌, ◌≤◌, ℕ, [], length, take}
use Rattle.std.specs.Prelude.{All, fold, slice_index}
use Rattle.lin_sections.specs.Moved.{with_length}
use Rattle.lin_sections.proofs.diff.chain.chain_lengths.Given as goal

abbrev pub invariant-loop-place : goal.invariant-loop-place
invariant-loop-place l = record {
  lengths : l.lengths.items ≡ fold (with_length l.places) [] (take l.place-index l.places);
  number : length l.lengths.items ≡ l.place-index;
  few : All (λ n. n ≤ l.most) l.lengths.items;
  short : (i : ℕ) → i < length l.lengths.items → slice_index l.lengths.items i ≤ i + 1;
  most : l.most ≤ l.place-index;
}
