-- Maps from names to the first declaration that has the name.
use Rattle.std.specs.Prelude.{◌≡◌, ℕ, List, Option}
use Rattle.std.specs.List.{position_from}
use Rattle.std.specs.Str.{bytes_eq}
use Rattle.indexmap.specs.IndexMap.{IndexMap, get_by}
use Rattle.lin_parts.specs.declared.description.Name.{Name}
use denote.Ref.{Bor}

-- what a map has under a text
abbrev pub under : {V S : Type 0} → IndexMap (Bor (List ℕ)) V S → List ℕ → Option V
under m q = get_by (λ k. bytes_eq q k.now) m

-- under each text the map has the number of the first item with this text
abbrev pub NumbersFirst : {A S : Type 0} → (A → Name) → List A → IndexMap (Bor (List ℕ)) ℕ S
    → Type 0
NumbersFirst name_of xs m =
    (q : List ℕ) → under m q ≡ position_from (λ x. bytes_eq (name_of x).text q) 0 xs
