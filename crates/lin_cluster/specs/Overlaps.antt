-- Finding 7, signals overlap (LIN 2.2A, section 9.2.4.1).
use Rattle.std.specs.Prelude.{ℕ, ◌+◌, List, take, Bool, ◌&&◌, ◌||◌, nat_lt, false}
use Rattle.std.specs.List.{list_any}
use Rattle.std.specs.Option.{option_map_or}
use Rattle.lin_cluster.specs.FindingsNames.{at_number, when, same_name, signal_named}
use Rattle.lin_cluster.specs.declared.finding.FindingKind.TheVariants.{SignalsOverlap}
use Rattle.lin_cluster.specs.declared.finding.Finding.{Finding}
use Rattle.lin_parts.specs.declared.description.Description.{Description}
use Rattle.lin_parts.specs.declared.description.PlacedSignal.{PlacedSignal}

-- ---- 7 SignalsOverlap

-- two ranges of bits with a common bit
abbrev pub share_bit : ℕ → ℕ → ℕ → ℕ → Bool
share_bit a m b n = nat_lt 0 m && nat_lt 0 n && nat_lt a (b + n) && nat_lt b (a + m)

-- an earlier signal of the frame is the same, or shares a bit with this one of so many bits
abbrev pub overlaps_earlier : Description → PlacedSignal → ℕ → PlacedSignal → Bool
overlaps_earlier d p size q =
    same_name q.signal p.signal
    || option_map_or
    (λ t. share_bit p.offset.value size q.offset.value t.size.value) (signal_named d q.signal) false

abbrev pub is_overlapping : Description → List PlacedSignal → PlacedSignal → Bool
is_overlapping d earlier p =
    option_map_or (λ s. list_any (overlaps_earlier d p s.size.value) earlier) (signal_named d p.signal) false

-- the signal with this number in a frame
abbrev pub overlap_at : Description → List PlacedSignal → ℕ × PlacedSignal → List Finding
overlap_at d placed ip =
    when (is_overlapping d (take ip.0 placed) ip.1) (at_number SignalsOverlap ip.1.offset)
