-- The rows of a campaign, and the faults of each, as the places of single faults: the undisturbed
-- play, each single fault, each two of them, and random sets of them.
use Rattle.std.specs.Prelude.{◌≡◌, ◌≤◌, ℕ, ◌+◌, ◌-◌, ◌*◌, ◌/◌, ◌%◌, ◌^◌, Bool, nat_lt, if◌then◌else◌, bit_xor}
use Rattle.std.specs.Prelude.{List, [], ◌∷◌, ◌++◌, drop, filter, flat_map, length, map, take}
use Rattle.std.specs.Prelude.{slice_index_or, Option, Some, None}
use Rattle.lin_frame.specs.Words.{numbers}
use Rattle.lin_tool.specs.declared.campaign.rows.CampaignPart.{CampaignPart}
use Rattle.lin_tool.specs.declared.campaign.rows.RandomSets.{RandomSets}
use Rattle.lin_tool.specs.declared.campaign.rows.Rows.{Rows}

-- ---- random numbers (SplitMix64: Steele, Lea and Flood, Fast splittable pseudorandom number
-- generators, 2014)
-- of 64 bits: sums and products are modulo 2 ^ 64
abbrev pub wrapped_sum : ℕ → ℕ → ℕ
wrapped_sum x y = (x + y) % 2 ^ 64

abbrev pub wrapped_product : ℕ → ℕ → ℕ
wrapped_product x y = x * y % 2 ^ 64

-- a number with its high bits folded down by so many places
abbrev pub xor_shift : ℕ → ℕ → ℕ
xor_shift bits x = bit_xor x (x / 2 ^ bits)

-- the random number at a place, counted from 0
unfoldable pub drawn : ℕ → ℕ → ℕ
drawn seed place =
    let x = wrapped_sum seed (wrapped_product (wrapped_sum place 1) 0x9E3779B97F4A7C15)
    in let y = wrapped_product (xor_shift 30 x) 0xBF58476D1CE4E5B9
    in xor_shift 31 (wrapped_product (xor_shift 27 y) 0x94D049BB133111EB)

-- ---- sets of n single faults
abbrev pub ones : ℕ → List (List ℕ)
ones n = map (λ i. i ∷ []) (numbers n)

-- each two, by the first and then by the second
abbrev pub pairs_from : ℕ → ℕ → List (List ℕ)
pairs_from n i = map (λ j. i ∷ (i + 1 + j) ∷ []) (numbers (n - (i + 1)))

abbrev pub pairs_of_places : ℕ → List (List ℕ)
pairs_of_places n = flat_map (pairs_from n) (numbers n)

-- those of random set k
abbrev pub is_drawn : RandomSets → ℕ → ℕ → ℕ → Bool
is_drawn r n k i = nat_lt (drawn r.seed (wrapped_sum (wrapped_product k n) i) % 1000) r.rate

abbrev pub random_set : RandomSets → ℕ → ℕ → List ℕ
random_set r n k = filter (is_drawn r n k) (numbers n)

abbrev pub random_sets : Option RandomSets → ℕ → List (List ℕ)
random_sets None n = []
random_sets (Some r) n = map (random_set r n) (numbers r.count)

-- ---- all rows
abbrev pub pairs_in : Rows → List (List ℕ)
pairs_in t = if t.pairs then pairs_of_places t.singles else []

abbrev pub rows : Rows → List (List ℕ)
rows t =
    [] ∷ (ones t.singles
    ++ (pairs_in t ++ random_sets t.random t.singles))

abbrev pub places_of : Rows → ℕ → List ℕ
places_of t row = slice_index_or (rows t) row []

-- a part is one of those that there are
abbrev pub IsPart : CampaignPart → Type 0
IsPart p = (1 ≤ p.number) × (p.number ≤ p.count)

-- where part k of n ends, and part k + 1 begins
abbrev pub bound : ℕ → ℕ → ℕ → ℕ
bound count k n = count * k / n

-- a part of a list of rows
abbrev pub part_of : CampaignPart → List (List ℕ) → List (List ℕ)
part_of p xs =
    let from = bound (length xs) (p.number - 1) p.count
    in take (bound (length xs) p.number p.count - from) (drop from xs)

-- the parts of a list of rows, one after another, are the whole
abbrev pub ArePartsJoined : Type 0
ArePartsJoined =
    (xs : List (List ℕ)) (count : ℕ) → 1 ≤ count
    → flat_map (λ k. part_of (record { number = k + 1; count = count }) xs) (numbers count) ≡ xs
