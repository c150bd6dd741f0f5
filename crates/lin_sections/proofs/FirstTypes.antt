-- The first type of each name, one by one.
use Rattle.std.proofs.Common.{◌≡◌, ◌∙◌, ◌+◌, ◌<◌, ◌≤◌, ℕ, true, false, List, [], ◌∷◌, ◌++◌, length, take, get_or, append-nil, append_assoc, refl, sym, ap}
use Rattle.std.specs.Prelude.{nat_lt}
use Rattle.std.specs.List.{list_any, position_or_len}
use Rattle.std.proofs.lemmas.Bool.{le-ltb, lt-ltb}
use Rattle.std.proofs.lemmas.List.{take_more}
use Rattle.lin_cluster.specs.FindingsNames.{same_name}
use Rattle.lin_values.proofs.NamedLines.{first-below}
use Rattle.lin_sections.specs.Things.{first_type, first_types}
use Rattle.lin_values.specs.declared.codings.CodingType.{CodingType}

firsts-behind : (before ts : List CodingType) (t : CodingType) → first_types before (ts ++ t ∷ []) ≡ first_types before ts ++ first_type (before ++ ts) t
firsts-behind before [] t = append-nil (first_type before t) ∙ ap (λ b. first_type b t) (sym (append-nil before))
firsts-behind before (u ∷ ts) t =
    ap (λ us. first_type before u ++ us)
    (firsts-behind (before ++ u ∷ []) ts t ∙ ap (λ b. first_types (before ++ u ∷ []) ts ++ first_type b t) (append_assoc before (u ∷ []) ts))
    ∙ sym (append_assoc (first_type before u) (first_types (before ++ u ∷ []) ts) (first_type (before ++ u ∷ ts) t))

pub firsts-more : (ts : List CodingType) (i : ℕ) (d : CodingType) → i < length ts
    → first_types [] (take (i + 1) ts) ≡ first_types [] (take i ts) ++ first_type (take i ts) (get_or ts i d)
firsts-more ts i d lt = ap (first_types []) (take_more ts i d lt) ∙ firsts-behind [] (take i ts) (get_or ts i d)

-- an earlier one has the name
pub not-first : (ts : List CodingType) (i n : ℕ) (t : CodingType) → i ≤ length ts → n ≡ position_or_len (λ u. same_name u.name t.name) ts → n < i
    → first_type (take i ts) t ≡ []
not-first ts i n t le is lt =
    let earlier : list_any (λ (u : CodingType). same_name u.name t.name) (take i ts) ≡ true =
    sym (first-below (λ (u : CodingType). same_name u.name t.name) ts i le) ∙ ap (λ k. nat_lt k i) (sym is) ∙ lt-ltb n i lt in
    rw earlier refl

pub is-first : (ts : List CodingType) (i n : ℕ) (t : CodingType) → i ≤ length ts → n ≡ position_or_len (λ u. same_name u.name t.name) ts → i ≤ n
    → first_type (take i ts) t ≡ t ∷ []
is-first ts i n t within is le =
    let none : list_any (λ (u : CodingType). same_name u.name t.name) (take i ts) ≡ false =
    sym (first-below (λ (u : CodingType). same_name u.name t.name) ts i within) ∙ ap (λ k. nat_lt k i) (sym is) ∙ le-ltb n i le in
    rw none refl
