-- What is kept of items, one after the other.
use Rattle.std.proofs.Common.{◌≡◌, ◌<◌, ◌+◌, ℕ, suc, Bool, true, false, cond, not, ◌||◌, List, [], ◌∷◌, ◌++◌, length, take, get_or, max, refl, sym, subst, ap, ◌∙◌, inl, inr, arith, append-nil}
use Rattle.std.specs.Prelude.{Option, Some, None, filter, flat_map, fold, nat_lt, option_and_then, All}
use Rattle.std.specs.List.{list_any}
use Rattle.std.proofs.lemmas.Bool.{cases_Bool, lt-ltb}
use Rattle.std.proofs.lemmas.List.{map-append, take_more}
use Rattle.std.proofs.lemmas.List.Concat.{flat_map-append}
use Rattle.std.proofs.lemmas.List.Elements.{filter-append, filter_passes, All-head}
use Rattle.std.proofs.lemmas.List.Folds.{list_any-append}
use Rattle.std.proofs.lemmas.Grind.{fold-append}
use Rattle.lin_values.specs.Coded.{all_codings, all_ends, all_items, codings_of, ends_of, first_coding, first_of, greatest_end, is_numeric, is_range, same_coding, second_coding}
use Rattle.lin_values.specs.Traits.{coded_behind, with_coding, with_number, with_traits}
use Rattle.lin_values.specs.Value.{fits}
use Rattle.lin_values.specs.declared.encoding.Coding.{Coding}
use Rattle.lin_values.specs.declared.encoding.Coding.TheVariants as codings
use Rattle.lin_values.specs.declared.encoding.Traits.{Traits}
use Rattle.lin_values.specs.declared.codings.Item.{Item}
use Rattle.lin_values.specs.declared.codings.Item.TheVariants.{Logical, Physical, Bcd, Ascii}
use Rattle.lin_values.specs.declared.codings.PlacedItem.{PlacedItem}

pub record AreTraits (t : Traits) (ps : List PlacedItem) : Type 0 where
  pub numeric : t.is_numeric ≡ is_numeric ps
  pub range : t.has_range ≡ list_any is_range (all_items ps)
  pub greatest : t.greatest ≡ greatest_end ps
  pub first : t.first ≡ first_coding ps
  pub second : t.second ≡ second_coding ps

-- ---- codings

abbrev pub other : Coding → Coding → Bool
other a b = not (same_coding a b)

abbrev pub second_of : List Coding → Option Coding
second_of cs = option_and_then (λ a. first_of (filter (other a) cs)) (first_of cs)

pub same-itself : (a : Coding) → same_coding a a ≡ true
same-itself codings.Bcd = refl
same-itself codings.Ascii = refl

-- there are two
only-other : (a b c : Coding) → other a b ≡ true → same_coding a c ≡ false → b ≡ c
only-other codings.Bcd codings.Bcd c e f = absurd (cc)
only-other codings.Bcd codings.Ascii codings.Bcd e f = absurd (cc)
only-other codings.Bcd codings.Ascii codings.Ascii e f = refl
only-other codings.Ascii codings.Ascii c e f = absurd (cc)
only-other codings.Ascii codings.Bcd codings.Ascii e f = absurd (cc)
only-other codings.Ascii codings.Bcd codings.Bcd e f = refl

first-append : (xs : List Coding) (c : Coding) (all : (d : Coding) (ds : List Coding) → xs ≡ d ∷ ds → d ≡ c) → first_of (xs ++ c ∷ []) ≡ Some c
first-append [] c all = refl
first-append (d ∷ ds) c all = ap Some (all d ds refl)

first-other : (a c : Coding) (ys : List Coding) → same_coding a c ≡ false → first_of (filter (other a) ys ++ c ∷ []) ≡ Some c
first-other a c ys apart =
    first-append (filter (other a) ys) c (λ d ds e. only-other a d c (All-head (λ x. other a x ≡ true) d ds (subst (All (λ x. other a x ≡ true)) e (filter_passes (other a) ys))) apart)

coded-first : (t : Traits) (c f : Coding) → t.first ≡ Some f → (coded_behind t (Some f) c).first ≡ Some f
coded-first t c f is =
    elim (same_coding f c) as (λ b. (cond b t (record t { second = Some c })).first ≡ Some f) [
      | true ↦ is
      | false ↦ is
    ]

second-more : (t : Traits) (c f : Coding) (fs : List Coding) → t.second ≡ first_of (filter (other f) fs) → (coded_behind t (Some f) c).second ≡ first_of (filter (other f) fs ++ filter (other f) (c ∷ []))
second-more t c f fs second =
    elim (cases_Bool (same_coding f c)) as (λ _. (coded_behind t (Some f) c).second ≡ first_of (filter (other f) fs ++ filter (other f) (c ∷ []))) [
      | inl same ↦
          ap (λ b. (cond b t (record t { second = Some c })).second) same ∙ second
          ∙ ap first_of (sym (append-nil (filter (other f) fs)))
          ∙ ap (λ b. first_of (filter (other f) fs ++ cond (not b) (c ∷ []) [])) (sym same)
      | inr apart ↦
          ap (λ b. (cond b t (record t { second = Some c })).second) apart
          ∙ sym (first-other f c fs apart)
          ∙ ap (λ b. first_of (filter (other f) fs ++ cond (not b) (c ∷ []) [])) (sym apart)
    ]

-- ---- a coding more

coding-more : (t : Traits) (c : Coding) (cs : List Coding) → t.first ≡ first_of cs → t.second ≡ second_of cs → ((with_coding t c).first ≡ first_of (cs ++ c ∷ [])) × ((with_coding t c).second ≡ second_of (cs ++ c ∷ []))
coding-more t c [] first second =
    let none : filter (other c) (c ∷ []) ≡ [] = ap (λ b. cond (not b) (c ∷ []) []) (same-itself c) in
    (ap (λ o. (coded_behind t o c).first) first, ap (λ o. (coded_behind t o c).second) first ∙ second ∙ ap first_of (sym none))
coding-more t c (f ∷ fs) first second =
    let all : filter (other f) (f ∷ (fs ++ c ∷ [])) ≡ filter (other f) fs ++ filter (other f) (c ∷ []) =
    ap (λ b. cond (not b) (f ∷ filter (other f) (fs ++ c ∷ [])) (filter (other f) (fs ++ c ∷ []))) (same-itself f) ∙ filter-append (other f) fs (c ∷ []) in
    let old : filter (other f) (f ∷ fs) ≡ filter (other f) fs = ap (λ b. cond (not b) (f ∷ filter (other f) fs) (filter (other f) fs)) (same-itself f) in (
      ap (λ o. (coded_behind t o c).first) first ∙ coded-first t c f first,
      ap (λ o. (coded_behind t o c).second) first
          ∙ second-more t c f fs (second ∙ ap first_of old)
          ∙ ap first_of (sym all),
    )

-- ---- an item more

-- what the items' ends, codings and ranges are
pub record AreGathered (t : Traits) (ends : List ℕ) (cs : List Coding) (is : List Item) : Type 0 where
  pub numeric : t.is_numeric ≡ nat_lt 0 (length ends)
  pub range : t.has_range ≡ list_any is_range is
  pub greatest : t.greatest ≡ fold max 0 ends
  pub first : t.first ≡ first_of cs
  pub second : t.second ≡ second_of cs

number-more : (n : ℕ) (ends : List ℕ) → true ≡ nat_lt 0 (length (ends ++ n ∷ []))
number-more n [] = refl
number-more n (m ∷ ms) = sym (lt-ltb 0 (suc (length (ms ++ n ∷ []))) (omega arith))

or-false : (b : Bool) → b ≡ (b || false)
or-false true = refl
or-false false = refl

or-true : (b : Bool) → true ≡ (b || true)
or-true true = refl
or-true false = refl

behind-keeps : (t : Traits) (o : Option Coding) (c : Coding) → ((coded_behind t o c).is_numeric ≡ t.is_numeric) × ((coded_behind t o c).has_range ≡ t.has_range) × ((coded_behind t o c).greatest ≡ t.greatest)
behind-keeps t None c = (refl, refl, refl)
behind-keeps t (Some f) c =
    let Keeps : Traits → Type 0 = λ r. (r.is_numeric ≡ t.is_numeric) × (r.has_range ≡ t.has_range) × (r.greatest ≡ t.greatest) in
    elim (same_coding f c) as (λ b. Keeps (cond b t (record t { second = Some c }))) [
      | true ↦ (refl, refl, refl)
      | false ↦ (refl, refl, refl)
    ]

coding-keeps : (t : Traits) (c : Coding) → ((with_coding t c).is_numeric ≡ t.is_numeric) × ((with_coding t c).has_range ≡ t.has_range) × ((with_coding t c).greatest ≡ t.greatest)
coding-keeps t c = behind-keeps t t.first c

-- a range more, if it fits
abbrev with_range : Bool → Traits → ℕ → Traits
with_range b t to = cond b (record (with_number t to) { has_range = true }) t

record IsRangeMore (t : Traits) (ends : List ℕ) (cs : List Coding) (is : List Item) (to : ℕ) (b : Bool) : Type 0 where
  pub numeric : (with_range b t to).is_numeric ≡ nat_lt 0 (length (ends ++ cond b (to ∷ []) []))
  pub range : (with_range b t to).has_range ≡ (list_any is_range is || (b || false))
  pub greatest : (with_range b t to).greatest ≡ fold max 0 (ends ++ cond b (to ∷ []) [])
  pub first : (with_range b t to).first ≡ first_of cs
  pub second : (with_range b t to).second ≡ second_of cs

range-more : (t : Traits) (ends : List ℕ) (cs : List Coding) (is : List Item) (to : ℕ) (b : Bool) → AreGathered t ends cs is → IsRangeMore t ends cs is to b
range-more t ends cs is to true have = record {
  numeric = number-more to ends;
  range = or-true (list_any is_range is);
  greatest = ap (λ n. max n to) have.greatest ∙ sym (fold-append max 0 ends (to ∷ []));
  first = have.first;
  second = have.second;
}
range-more t ends cs is to false have = record {
  numeric = have.numeric ∙ ap (λ es. nat_lt 0 (length es)) (sym (append-nil ends));
  range = have.range ∙ or-false (list_any is_range is);
  greatest = have.greatest ∙ ap (fold max 0) (sym (append-nil ends));
  first = have.first;
  second = have.second;
}

item-more : (t : Traits) (ends : List ℕ) (cs : List Coding) (is : List Item) (i : Item) → AreGathered t ends cs is → AreGathered (with_traits t i) (ends ++ ends_of i) (cs ++ codings_of i) (is ++ i ∷ [])
item-more t ends cs is (Logical v text) have = record {
  numeric = number-more v ends;
  range = have.range ∙ or-false (list_any is_range is) ∙ sym (list_any-append is_range is (Logical v text ∷ []));
  greatest = ap (λ n. max n v) have.greatest ∙ sym (fold-append max 0 ends (v ∷ []));
  first = have.first ∙ ap first_of (sym (append-nil cs));
  second = have.second ∙ ap second_of (sym (append-nil cs));
}
item-more t ends cs is (Physical from to scale offset unit) have =
    let more = range-more t ends cs is to (fits to scale offset) have in
    record {
      numeric = more.numeric;
      range = more.range ∙ sym (list_any-append is_range is (Physical from to scale offset unit ∷ []));
      greatest = more.greatest;
      first = more.first ∙ ap first_of (sym (append-nil cs));
      second = more.second ∙ ap second_of (sym (append-nil cs));
    }
item-more t ends cs is Bcd have =
    let more = coding-more t codings.Bcd cs have.first have.second in
    let kept = coding-keeps t codings.Bcd in
    record {
      numeric = kept.0 ∙ have.numeric ∙ ap (λ es. nat_lt 0 (length es)) (sym (append-nil ends));
      range = kept.1 ∙ have.range ∙ or-false (list_any is_range is) ∙ sym (list_any-append is_range is (Bcd ∷ []));
      greatest = kept.2 ∙ have.greatest ∙ ap (fold max 0) (sym (append-nil ends));
      first = more.0;
      second = more.1;
    }
item-more t ends cs is Ascii have =
    let more = coding-more t codings.Ascii cs have.first have.second in
    let kept = coding-keeps t codings.Ascii in
    record {
      numeric = kept.0 ∙ have.numeric ∙ ap (λ es. nat_lt 0 (length es)) (sym (append-nil ends));
      range = kept.1 ∙ have.range ∙ or-false (list_any is_range is) ∙ sym (list_any-append is_range is (Ascii ∷ []));
      greatest = kept.2 ∙ have.greatest ∙ ap (fold max 0) (sym (append-nil ends));
      first = more.0;
      second = more.1;
    }

gathered : (t : Traits) (ps : List PlacedItem) → AreTraits t ps → AreGathered t (all_ends ps) (all_codings ps) (all_items ps)
gathered t ps are = record { numeric = are.numeric; range = are.range; greatest = are.greatest; first = are.first; second = are.second }

pub traits-more : (t t' : Traits) (ps : List PlacedItem) (i : ℕ) (p : PlacedItem) → i < length ps → p ≡ get_or ps i p → AreTraits t (take i ps) → t' ≡ with_traits t p.item → AreTraits t' (take (i + 1) ps)
traits-more t t' ps i p lt is are so =
    let all : all_items (take (i + 1) ps) ≡ all_items (take i ps) ++ p.item ∷ [] = ap all_items (take_more ps i p lt ∙ ap (λ q. take i ps ++ q ∷ []) (sym is)) ∙ map-append (λ (q : PlacedItem). q.item) (take i ps) (p ∷ []) in
    let ends : all_ends (take i ps) ++ ends_of p.item ≡ all_ends (take (i + 1) ps) = ap (λ es. all_ends (take i ps) ++ es) (sym (append-nil (ends_of p.item))) ∙ sym (ap (flat_map ends_of) all ∙ flat_map-append ends_of (all_items (take i ps)) (p.item ∷ [])) in
    let cs : all_codings (take i ps) ++ codings_of p.item ≡ all_codings (take (i + 1) ps) = ap (λ es. all_codings (take i ps) ++ es) (sym (append-nil (codings_of p.item))) ∙ sym (ap (flat_map codings_of) all ∙ flat_map-append codings_of (all_items (take i ps)) (p.item ∷ [])) in
    let more = item-more t (all_ends (take i ps)) (all_codings (take i ps)) (all_items (take i ps)) p.item (gathered t (take i ps) are) in
    record {
      numeric = ap (λ (r : Traits). r.is_numeric) so ∙ more.numeric ∙ ap (λ es. nat_lt 0 (length es)) ends;
      range = ap (λ (r : Traits). r.has_range) so ∙ more.range ∙ ap (list_any is_range) (sym all);
      greatest = ap (λ (r : Traits). r.greatest) so ∙ more.greatest ∙ ap (fold max 0) ends;
      first = ap (λ (r : Traits). r.first) so ∙ more.first ∙ ap first_of cs;
      second = ap (λ (r : Traits). r.second) so ∙ more.second ∙ ap second_of cs;
    }
