use Rattle.std.proofs.Common.{◌≡◌, ℕ, List, map, take}
use Rattle.std.specs.Prelude.{◌||◌}
use Rattle.lin_sections.specs.NewNames.{has_in, is_among}
use Rattle.lin_sections.proofs.diff.new_names.KnownNames.add_all.Given as goal

abbrev pub invariant-loop-one : goal.invariant-loop-one
invariant-loop-one g l =
    (q : List ℕ) → has_in l.self.map q ≡ (has_in l.fn.self.map q || is_among (map (λ x. (g.T.Named.name_of x).text) (take l.one-index l.all)) q)
