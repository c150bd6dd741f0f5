-- The encoding that a signal has, by its number.
use Rattle.std.proofs.Common.{◌≡◌, ◌∙◌, ℕ, Bool, List, length, refl, sym, ap, arith}
use Rattle.std.specs.Prelude.{find, option_and_then, option_map, slice_get, Option, Some, None}
use Rattle.std.specs.List.{position_or_len}
use Rattle.std.proofs.lemmas.Iterator.Adapters.{position_from-zero}
use Rattle.std.proofs.lemmas.List.Folds.{find_at}
use Rattle.std.proofs.lemmas.Option.{slice_get_past}
use Rattle.lin_cluster.specs.FindingsNames.{same_name}
use Rattle.lin_cluster.proofs.NamesFound.{none_numbered, number_found}
use Rattle.lin_parts.specs.declared.description.Name.{Name}
use Rattle.lin_values.specs.Gathered.{type_number}
use Rattle.lin_values.specs.declared.codings.CodingType.{CodingType}

pub coding-at : (ts : List CodingType) (o : Option (Name × Name)) (k : ℕ) → Some k ≡ option_and_then (λ e. e) (option_map (λ p. type_number ts p.1) o)
    → slice_get ts k ≡ option_and_then (λ p. find (λ t. same_name t.name p.1) ts) o
coding-at ts None k e = absurd cc
coding-at ts (Some p) k e =
    let test : CodingType → Bool = λ t. same_name t.name p.1 in
    ap (slice_get ts) (number_found test ts k (e ∙ position_from-zero test ts)) ∙ sym (find_at test ts)

pub no-coding : (ts : List CodingType) (o : Option (Name × Name)) → None ≡ option_and_then (λ e. e) (option_map (λ p. type_number ts p.1) o)
    → None ≡ option_and_then (λ p. find (λ t. same_name t.name p.1) ts) o
no-coding ts None e = refl
no-coding ts (Some p) e =
    let test : CodingType → Bool = λ t. same_name t.name p.1 in
    let past : length ts ≡ position_or_len test ts = none_numbered test ts (e ∙ position_from-zero test ts) in
    sym (find_at test ts ∙ slice_get_past ts (position_or_len test ts) (omega arith))
