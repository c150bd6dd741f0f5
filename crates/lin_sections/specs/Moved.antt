-- Which entries of a schedule table were moved. The entries that both tables have are pairs, in the order of
-- the new table, each by its place in the old one. A chain is some of them in order, with rising places: they
-- kept their order. The pairs outside of a longest chain were moved.
use Rattle.std.specs.Prelude.{ℕ, zero, suc, ◌==◌, ◌&&◌, ◌++◌, Bool, true, false, List, [], ◌∷◌, length}
use Rattle.std.specs.Prelude.{fold, max, nat_lt, position, replicate, set, if◌then◌else◌}
use Rattle.std.specs.Prelude.{Option, Some, None, slice_index}
use Rattle.std.specs.List.{range_with_len}
use Rattle.std.specs.Option.{option_map_or}

-- the greatest length of a chain that ends at a lower place: the places of pairs, and the lengths of the
-- longest chains that end with the first of them
abbrev pub longest_before : ℕ → List ℕ → List ℕ → ℕ
longest_before place [] lengths = 0
longest_before place (p ∷ ps) [] = 0
longest_before place (p ∷ ps) (n ∷ lengths) =
    if nat_lt p place then max n (longest_before place ps lengths) else longest_before place ps lengths

-- the length of the longest chain that ends with a pair: one more than before it
abbrev pub with_length : List ℕ → List ℕ → ℕ → List ℕ
with_length places lengths place = lengths ++ suc (longest_before place places lengths) ∷ []

abbrev pub chain_lengths : List ℕ → List ℕ
chain_lengths places = fold (with_length places) [] places

-- whether a place is below that of the next link of a chain, if there is one
abbrev pub is_below : ℕ → Option ℕ → Bool
is_below place None = true
is_below place (Some end) = nat_lt place end

-- the first of so many pairs that ends a chain of this length below a place
abbrev pub link : List ℕ → List ℕ → ℕ → ℕ → Option ℕ → Option ℕ
link places lengths n count end =
    position (λ i. slice_index lengths i == n && is_below (slice_index places i) end) (range_with_len 0 count)

-- the chain of so many links among the first pairs, from its end on: the first pair that can end it, and
-- before it the chain that the pair continues
abbrev pub chain : List ℕ → List ℕ → ℕ → ℕ → Option ℕ → List ℕ
chain places lengths zero count end = []
chain places lengths (suc n) count end =
    option_map_or (λ i. i ∷ chain places lengths n i (Some (slice_index places i)))
    (link places lengths (suc n) count end) []

abbrev pub without_marks : List Bool → List ℕ → List Bool
without_marks flags chain = fold (λ all i. set all i false) flags chain

-- whether each pair was moved
abbrev pub moved_flags : List ℕ → List Bool
moved_flags places =
    without_marks (replicate (length places) true)
    (chain places (chain_lengths places) (fold max 0 (chain_lengths places)) (length places) None)
