use Rattle.std.proofs.Common.{◌≡◌, ◌++◌, List, ℕ, flat_map, length}
use Rattle.lin_text.specs.Written.{Grows}
use Rattle.lin_field.specs.Plain.{attribute_text, parts}
use Rattle.lin_field.proofs.plain.put_attributes.Given as goal

-- what was put, and the parts that are left
abbrev pub invariant-loop-part : goal.invariant-loop-part
invariant-loop-part g l =
    (done : List ℕ) × Grows g.W.Write.contents l.initial.out l.out done
    × (flat_map (attribute_text l.source) (parts l.tokens) ≡ done ++ flat_map (attribute_text l.source) (parts l.rest))

abbrev pub decreases-loop-part : goal.decreases-loop-part
decreases-loop-part g l = length l.rest
