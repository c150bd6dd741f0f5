-- The first two of the numbers that have one value, in place of all of them.
use Rattle.std.specs.Prelude.{◌≡◌, ℕ, List, count_by, Option, Bool, ◌==◌, ◌&&◌, ◌||◌, nat_lt, nat_eq}
use Rattle.std.specs.Prelude.{false}
use Rattle.std.specs.Option.{option_map_or}
use Rattle.indexmap.specs.IndexMap.{IndexMap, get}
use Rattle.lin_cluster.specs.Identifiers.{is_up_to}
use Rattle.lin_cluster.specs.declared.findings.repeats.Uses.{Uses}
use Rattle.lin_parts.specs.declared.description.Number.{Number}

-- whether up to the place of a number there is one with its value, and whether there are two
abbrev pub has_one : Option Uses → Number → Bool
has_one uses x = option_map_or (λ u. is_up_to x u.first) uses false

abbrev pub has_two : Option Uses → Number → Bool
has_two uses x = option_map_or (λ u. option_map_or (is_up_to x) u.second false) uses false

-- the same with one more, by whether that stands up to the place too
abbrev pub has_two_with : Option Uses → Number → Bool → Bool
has_two_with uses x more = has_two uses x || (has_one uses x && more)

-- whether another number has the value of a number and stands up to its place
abbrev pub is_use : Number → Number → Bool
is_use x y = y.value == x.value && is_up_to x y

-- under each value a map has the first two numbers
abbrev pub CountsUses : {S : Type 0} → List Number → IndexMap ℕ Uses S → Type 0
CountsUses ns m =
    (x : Number)
    → (has_one (get nat_eq m x.value) x ≡ nat_lt 0 (count_by (is_use x) ns))
    × (has_two (get nat_eq m x.value) x ≡ nat_lt 1 (count_by (is_use x) ns))
