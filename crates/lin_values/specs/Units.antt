-- The units of ranges, as they are looked at one after the other.
use Rattle.std.specs.Prelude.{◌≡◌, ℕ, true, false, List, [], ◌∷◌}
use Rattle.std.specs.List.{list_all}
use Rattle.std.specs.Str.{bytes_eq}
use Rattle.lin_values.specs.declared.unit.Unit.{Unit}
use Rattle.lin_values.specs.declared.unit.Unit.TheVariants.{NoRange, One, Several}

-- none was there, all were the same, or some were not
abbrev pub IsUnitOf : Unit → List (List ℕ) → Type 0
IsUnitOf NoRange us = us ≡ []
IsUnitOf (One unit) [] = ⊥
IsUnitOf (One unit) (v ∷ vs) = (v ≡ unit.now) × (list_all (λ w. bytes_eq w v) vs ≡ true)
IsUnitOf Several [] = ⊥
IsUnitOf Several (v ∷ vs) = list_all (λ w. bytes_eq w v) vs ≡ false
