use Rattle.std.proofs.Common.{◌≡◌, ℕ, List, [], Some, None, Option, map, refl, ap, sym, ◌∙◌}
use Rattle.std.specs.Prelude.{option_map, slice_index_or}
use Rattle.std.specs.Borrow.{Bor}
use Rattle.std.specs.Slice.{IsItemAt}
use Rattle.std.specs.Option.{option_copied, unwrap_or}
use Rattle.std.proofs.lemmas.Option.{slice_get-map, unwrap_or-slice_get}
use Rattle.lin_cluster.proofs.NamesFound.{lent-at}
use Rattle.lin_cluster.proofs.finding.name_at.Goals as goal

abbrev name_of : Option (Bor (List ℕ)) → List ℕ
name_of o = unwrap_or (option_map (λ s. s.now) o) []

joined : (o : Option (Bor (Bor (List ℕ)))) → unwrap_or (option_map (λ s. s.now.now) o) [] ≡ name_of (option_copied o)
joined (Some s) = refl
joined None = refl

-- what is read of a list of names
read_at : (xs : List (Bor (List ℕ))) (n : ℕ) (o : Option (Bor (Bor (List ℕ)))) → IsItemAt xs n o
    → unwrap_or (option_map (λ s. s.now.now) o) [] ≡ slice_index_or (map (λ s. s.now) xs) n []
read_at xs n o is =
    joined o ∙ ap name_of (lent-at xs n o is)
    ∙ ap (λ r. unwrap_or r []) (sym (slice_get-map (λ s. s.now) xs n))
    ∙ unwrap_or-slice_get (map (λ s. s.now) xs) n []

pub returns-in-Some : goal.returns-in-Some
returns-in-Some c = rw c.in-Some.is at (read_at c.args.names.now c.args.number c.get.result c.get.ensures.lookup)

pub returns-in-None : goal.returns-in-None
returns-in-None c = rw c.in-None.is at (read_at c.args.names.now c.args.number c.get.result c.get.ensures.lookup)
