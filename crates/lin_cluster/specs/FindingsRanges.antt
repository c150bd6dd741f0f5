-- Ranges of bits: a range has its start, and not its end. Bits below 64 stand in a mask, and most
-- ranges of others in a map from starts to ends.
use Rattle.std.specs.Prelude.{◌≡◌, ◌<◌, ◌≤◌, ◌⊎◌, ℕ, Some}
use Rattle.std.specs.BTreeMap.{BTreeMap, get}
use Rattle.std.specs.Int.{bit_at}
use Rattle.std.specs.Ordering.{nat_cmp}
use Rattle.lin_cluster.specs.declared.findings.ranges.Far.{Far}
use Rattle.lin_cluster.specs.declared.findings.ranges.Ranges.{Ranges}

-- one of the ranges has a bit of the range from a to b
abbrev pub Meets : BTreeMap ℕ ℕ → ℕ → ℕ → Type 0
Meets m a b = (k : ℕ) × (e : ℕ) × (get nat_cmp m k ≡ Some e) × (k < b) × (a < e)

-- each has a bit, and no two have one in common
pub record AreApart (m : BTreeMap ℕ ℕ) : Type 0 where
  pub some : (k e : ℕ) → get nat_cmp m k ≡ Some e → k < e
  pub apart : (j k e f : ℕ) → get nat_cmp m j ≡ Some e → get nat_cmp m k ≡ Some f → j < k → e ≤ k

-- none begins below b
abbrev pub IsNoneBelow : BTreeMap ℕ ℕ → ℕ → Type 0
IsNoneBelow m b = (k e : ℕ) → get nat_cmp m k ≡ Some e → b ≤ k

-- a range that begins below b, after each other one that does
abbrev pub IsLastBelow : BTreeMap ℕ ℕ → ℕ → ℕ × ℕ → Type 0
IsLastBelow m b r =
    (get nat_cmp m r.0 ≡ Some r.1) × (r.0 < b)
    × ((k e : ℕ) → get nat_cmp m k ≡ Some e → k < b → k ≤ r.0)

-- one of the ranges, or the range from s to e, has a bit of the range from a to b
abbrev pub Covers : BTreeMap ℕ ℕ → ℕ → ℕ → ℕ → ℕ → Type 0
Covers m s e a b = Meets m a b ⊎ ((s < b) × (a < e))

-- the same of the newest range and those of the map
abbrev pub HasFar : Far → ℕ → ℕ → Type 0
HasFar r a b = ((r.first < b) × (a < r.after)) ⊎ Meets r.others a b

-- the newest range has a bit, or there is none yet
pub record IsFar (r : Far) : Type 0 where
  pub order : r.first ≤ r.after
  pub some : 0 < r.after → r.first < r.after
  pub others : AreApart r.others

-- a bit below 64 of the range from s to e
abbrev pub IsNear : ℕ → ℕ → ℕ → Type 0
IsNear s e i = (i < 64) × (s ≤ i) × (i < e)

-- the range from s to e has a bit from 64 on of the range from a to b
abbrev pub IsBeyond : ℕ → ℕ → ℕ → ℕ → Type 0
IsBeyond s e a b = (s < b) × (a < e) × (64 < b) × (64 < e)

-- a bit of the range from a to b is in the mask
abbrev pub HasNear : ℕ → ℕ → ℕ → Type 0
HasNear m a b = (i : ℕ) × IsNear a b i × (bit_at m i ≡ 1)

-- the same of the mask and the ranges
abbrev pub HasBit : Ranges → ℕ → ℕ → Type 0
HasBit r a b = HasNear r.near a b ⊎ HasFar r.far a b

-- the ranges have no bit below 64
pub record IsRanges (r : Ranges) : Type 0 where
  pub far : IsFar r.far
  pub apart : (a b : ℕ) → a < b → b ≤ 64 → HasFar r.far a b → ⊥
