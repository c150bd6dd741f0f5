-- Where all names are nodes', all are kept, and none is warned of.
use Rattle.std.proofs.Common.{◌≡◌, Bool, true, false, not, List, [], ◌∷◌, ◌++◌, refl, ap, ◌∙◌, filter}
use Rattle.std.specs.Prelude.{◌&&◌}
use Rattle.std.specs.List.{list_all, flat_map}
use Rattle.lin_cluster.specs.FindingsNames.{at_name, when}
use Rattle.lin_cluster.specs.declared.finding.FindingKind.TheVariants.{UnknownName}
use Rattle.lin_parts.specs.declared.description.Name.{Name}
use Rattle.lin_field.specs.Names.{is_loose_node}
use Rattle.lin_field.specs.Signals.{unknown_loose_node}
use Rattle.lin_field.specs.declared.loose.LooseNodes.{LooseNodes}

both : (a b : Bool) → (a && b) ≡ true → (a ≡ true) × (b ≡ true)
both true b e = (refl, e)
both false b e = absurd cc

pub all_kept : {A : Type 0} (test : A → Bool) (xs : List A) → list_all test xs ≡ true → xs ≡ filter test xs
all_kept test [] e = refl
all_kept test (x ∷ xs) e = let h = both (test x) (list_all test xs) e in rw (h.0) (ap (λ ys. x ∷ ys) (all_kept test xs h.1))

nothing_of : {A B : Type 0} (test : A → Bool) (f : A → List B) → ((x : A) → test x ≡ true → f x ≡ []) → (xs : List A) → list_all test xs ≡ true → flat_map f xs ≡ []
nothing_of test f h [] e = refl
nothing_of test f h (x ∷ xs) e = let k = both (test x) (list_all test xs) e in ap (λ ys. ys ++ flat_map f xs) (h x k.0) ∙ nothing_of test f h xs k.1

pub none_unknown : (nodes : LooseNodes) (names : List Name) → list_all (is_loose_node nodes) names ≡ true → flat_map (unknown_loose_node nodes) names ≡ []
none_unknown nodes names e = nothing_of (is_loose_node nodes) (unknown_loose_node nodes) (λ n known. ap (λ (b : Bool). when (not b) (at_name UnknownName n)) known) names e
