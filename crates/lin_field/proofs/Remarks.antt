-- Findings, tight slots and warnings, and what is remarked of them.
use Rattle.std.proofs.Common.{◌≡◌, ◌≢◌, ◌==◌, ℕ, Bool, true, false, not, cond, ◌&&◌, ◌||◌, List, [], ◌∷◌, ◌++◌, length, get_or, map, filter, refl, sym, ap, ◌∙◌, subst, inl, inr, append_assoc, arith}
use Rattle.std.specs.Prelude.{All, IsSorted, IsPermutation, Result, Ok, Err, is_err, if◌then◌else◌}
use Rattle.std.specs.List.{list_any}
use Rattle.std.specs.List.Sorted.{IsBinarySearchResult, IsSearchInRange}
use Rattle.std.specs.Ordering.{bool_cmp}
use Rattle.std.specs.declared.cmp.Ordering.{Ordering}
use Rattle.std.specs.declared.cmp.Ordering.TheVariants.{Less, Equal, Greater}
use Rattle.std.proofs.lemmas.Bool.{and_parts, cases_lt, eqb-false, eqb-true, eq-eqb}
use Rattle.std.specs.Cmp.{IsTotalOrder, on_total, then_total, bool_cmp_total}
use Rattle.std.proofs.lemmas.Cmp.{tied_itself}
use Rattle.std.proofs.lemmas.List.{length-map, map-append, nil_from_length}
use Rattle.std.proofs.lemmas.List.Elements.{All-nil, All-cons, All-head, All-tail, filter_agree, filter-append}
use Rattle.std.proofs.lemmas.List.Folds.{list_any_at, list_any_none}
use Rattle.std.proofs.lemmas.List.Sorted.{All-permutation, IsPermutation-sym, searchable_from_sorted, list_any-IsPermutation, length_permutation, sum_by-IsPermutation, IsPermutation-map, IsPermutation-append, IsPermutation-append_left, IsPermutation-append_right, IsPermutation-append_comm, IsPermutation-trans}
use Rattle.lin_cluster.specs.Findings.{candidates, finding_cmp, IsFree, HasOnlyShortSlots}
use Rattle.lin_cluster.specs.declared.finding.Finding.{Finding}
use Rattle.lin_cluster.proofs.NothingIn.{none-has}
use Rattle.lin_cluster.proofs.FindingsOrder.{finding_total, findings_tied, then_tied, ordered_once}
use Rattle.lin_parts.specs.declared.description.Description.{Description}
use Rattle.lin_field.proofs.TightSlots.{none-tight, tight-are-short}
use Rattle.lin_field.proofs.Permutations.{IsPermutation-filter}
use Rattle.lin_field.specs.Checks.{same_finding, is_tight, wrong, remark, remarks, remark_cmp, AreRemarks}
use Rattle.lin_field.specs.Times.{tight_slots}
use Rattle.lin_field.specs.declared.field_check.Remark.{Remark}
use Rattle.lin_field.specs.declared.normalizing.Normalized.{Normalized}

-- ---- the same finding

pub same-is : (a b : Finding) → same_finding a b ≡ true → a ≡ b
same-is a b e =
    let first = and_parts (a.line == b.line) (a.column == b.column && (a.number == b.number && a.needed_us == b.needed_us)) e
    in let second = and_parts (a.column == b.column) (a.number == b.number && a.needed_us == b.needed_us) first.1
    in let third = and_parts (a.number == b.number) (a.needed_us == b.needed_us) second.1
    in let line : a.line ≡ b.line = eqb-true a.line b.line first.0
    in let column : a.column ≡ b.column = eqb-true a.column b.column second.0
    in let number : a.number ≡ b.number = eqb-true a.number b.number third.0
    in let needed_us : a.needed_us ≡ b.needed_us = eqb-true a.needed_us b.needed_us third.1
    in λ i. record { line = line i; column = column i; number = number i; needed_us = needed_us i }

itself : (n : ℕ) → (n == n) ≡ true
itself n = eq-eqb n n refl

same-itself : (a : Finding) → same_finding a a ≡ true
same-itself a =
    ap (λ t. t && (a.column == a.column && (a.number == a.number && a.needed_us == a.needed_us))) (itself a.line)
    ∙ (ap (λ t. t && (a.number == a.number && a.needed_us == a.needed_us)) (itself a.column)
    ∙ (ap (λ t. t && a.needed_us == a.needed_us) (itself a.number) ∙ itself a.needed_us))

-- ---- a search among findings in order

another : (x y : Finding) → finding_cmp y x ≢ Equal → same_finding x y ≡ false
another x y differ =
    elim (same_finding x y) as (λ b. same_finding x y ≡ b → b ≡ false) [
      | true ↦ λ e. absurd (differ (subst (λ z. finding_cmp z x ≡ Equal) (same-is x y e) (tied_itself finding_total x)))
      | false ↦ λ e. refl
    ] refl

not-equal : (o : Ordering) → o ≡ Less → o ≢ Equal
not-equal o less equal = cc

not-greater : (o : Ordering) → o ≡ Greater → o ≢ Equal
not-greater o greater equal = cc

pub searched : (ts : List Finding) (x : Finding) (r : Result ℕ ℕ) → IsSorted finding_cmp ts → IsSearchInRange r (length ts) → IsBinarySearchResult (λ y. finding_cmp y x) ts r → is_err r ≡ not (list_any (same_finding x) ts)
searched ts x (Ok i) ordered within is =
    ap not (sym (list_any_at (same_finding x) ts i x within
    (subst (λ y. same_finding x y ≡ true) (sym (findings_tied (get_or ts i x) x (is x))) (same-itself x))))
searched ts x (Err i) ordered within is =
    let at = is (searchable_from_sorted finding_total (λ (f : Finding). f) ts x ordered)
    in ap not (sym (list_any_none (same_finding x) ts (λ k d lt.
    another x (get_or ts k d)
    (elim (cases_lt k i) [
      | inl before ↦ not-equal (finding_cmp (get_or ts k d) x) (at.0 k d (omega arith) before)
      | inr after ↦ not-greater (finding_cmp (get_or ts k d) x) (at.1 k d after lt)
    ]))))

mapped-one : (b : Bool) (x : Finding) → (if b then remark false x ∷ [] else []) ≡ map (remark false) (cond b (x ∷ []) [])
mapped-one true x = refl
mapped-one false x = refl

-- the loop that adds what passes a test, from the end on
module _ (p : Finding → Bool) where
  pub turned : (xs ys : List Finding) (before old : List Remark) → IsPermutation xs ys → old ≡ before
      → IsPermutation (before ++ map (remark false) (filter p xs)) (old ++ map (remark false) (filter p ys))
  turned xs ys before old same is =
      subst (λ rs. IsPermutation (before ++ map (remark false) (filter p xs)) (rs ++ map (remark false) (filter p ys))) (sym is)
      (IsPermutation-append_right before _ _ (IsPermutation-map (remark false) (filter p xs) (filter p ys) (IsPermutation-filter p xs ys same)))

  pub more-found : (whole old more : List Remark) (xs rest : List Finding) (x : Finding) (b : Bool)
      → IsPermutation whole (old ++ map (remark false) (filter p xs)) → xs ≡ rest ++ x ∷ [] → b ≡ p x → more ≡ old ++ (if b then remark false x ∷ [] else [])
      → IsPermutation whole (more ++ map (remark false) (filter p rest))
  more-found whole old more xs rest x b so last passes here =
      let R = map (remark false) (filter p rest)
      in let one = if b then remark false x ∷ [] else []
      in let is : map (remark false) (filter p xs) ≡ R ++ one =
      ap (λ l. map (remark false) (filter p l)) last ∙ (ap (map (remark false)) (filter-append p rest (x ∷ []))
      ∙ (map-append (remark false) (filter p rest) (cond (p x) (x ∷ []) [])
      ∙ ap (λ l. R ++ l) (sym (ap (λ t. if t then remark false x ∷ [] else []) passes ∙ mapped-one (p x) x))))
      in let turned' : IsPermutation whole (old ++ (one ++ R)) =
      IsPermutation-trans whole (old ++ map (remark false) (filter p xs)) (old ++ (one ++ R)) so
      (subst (λ l. IsPermutation (old ++ l) (old ++ (one ++ R))) (sym is) (IsPermutation-append_right old _ _ (IsPermutation-append_comm R one)))
      in subst (λ l. IsPermutation whole l) (sym (append_assoc old one R) ∙ ap (λ l. l ++ R) (sym here)) turned'

-- ---- what is accepted

any-holds : {X : Type 0} (P : X → Type 0) (p : X → Bool) (Q : Type 0) (xs : List X) → All P xs → ((x : X) → P x → p x ≡ true → Q) → list_any p xs ≡ true → Q
any-holds P p Q [] all on e = absurd (cc)
any-holds P p Q (x ∷ xs) all on e =
    elim (p x) as (λ b. p x ≡ b → (b || list_any p xs) ≡ true → Q) [
      | true ↦ λ is _. on x (All-head P x xs all) is
      | false ↦ λ _ rest. any-holds P p Q xs (All-tail P x xs all) on rest
    ] refl e

kept-none : {X : Type 0} (p : X → Bool) (xs : List X) → filter (λ x. not (p x)) xs ≡ [] → All (λ x. p x ≡ true) xs
kept-none p [] e = All-nil (λ x. p x ≡ true)
kept-none p (x ∷ xs) e =
    elim (p x) as (λ b. p x ≡ b → cond (not b) (x ∷ filter (λ y. not (p y)) xs) (filter (λ y. not (p y)) xs) ≡ [] → All (λ y. p y ≡ true) (x ∷ xs)) [
      | true ↦ λ is rest. All-cons (λ y. p y ≡ true) x xs is (kept-none p xs rest)
      | false ↦ λ _ rest. absurd (cc)
    ] refl e

nil-front : {X : Type 0} (xs ys : List X) → xs ++ ys ≡ [] → xs ≡ []
nil-front [] ys e = refl
nil-front (x ∷ xs) ys e = absurd (cc)

-- what is tight is a slot that is too short, and nothing else
pub sound-where-tight : (d : Description) → filter (λ f. not (is_tight d f)) (candidates d) ≡ [] → HasOnlyShortSlots d
sound-where-tight d none k f lt =
    let here = get_or (candidates d) k f
    in any-holds (λ (t : Finding). t.number ≡ 9) (same_finding here) (here.number ≡ 9) (tight_slots d) (tight-are-short d)
    (λ t short same. ap (λ (g : Finding). g.number) (same-is here t same) ∙ short)
    (kept-none (is_tight d) (candidates d) none k f lt)

-- ---- what is remarked

wrong-found : (s : Normalized) (found tight : List Finding) → IsPermutation (candidates s.description) found → IsPermutation (tight_slots s.description) tight
    → IsPermutation (filter (λ f. not (is_tight s.description f)) (candidates s.description)) (filter (λ f. not (list_any (same_finding f) tight)) found)
wrong-found s found tight all tights =
    let d = s.description
    in let p = λ (f : Finding). not (is_tight d f)
    in let q = λ (f : Finding). not (list_any (same_finding f) tight)
    in subst (λ fs. IsPermutation (filter p (candidates d)) fs)
    (filter_agree p q (λ f. ap not (list_any-IsPermutation (same_finding f) (tight_slots d) tight tights)) found)
    (IsPermutation-filter p (candidates d) found all)

-- what is wrong, in the order in which it is found
wrong-remarks : (s : Normalized) (found tight : List Finding) → IsPermutation (candidates s.description) found → IsPermutation (tight_slots s.description) tight
    → IsPermutation (map (remark false) (wrong s)) (map (remark false) (filter (λ f. not (list_any (same_finding f) tight)) found) ++ map (remark false) s.byte_order.items)
wrong-remarks s found tight all tights =
    let p = λ (f : Finding). not (is_tight s.description f)
    in let q = λ (f : Finding). not (list_any (same_finding f) tight)
    in subst (λ rs. IsPermutation (map (remark false) (wrong s)) rs) (map-append (remark false) (filter q found) s.byte_order.items)
    (IsPermutation-map (remark false) (wrong s) (filter q found ++ s.byte_order.items)
    (IsPermutation-append_left s.byte_order.items (filter p (candidates s.description)) (filter q found) (wrong-found s found tight all tights)))

all-remarks : (s : Normalized) (found tight : List Finding) → IsPermutation (candidates s.description) found → IsPermutation (tight_slots s.description) tight
    → IsPermutation (remarks s) (map (remark false) (filter (λ f. not (list_any (same_finding f) tight)) found) ++ map (remark false) s.byte_order.items ++ map (remark true) tight ++ map (remark true) s.warnings.items)
all-remarks s found tight all tights =
    let R = map (remark false) (filter (λ f. not (list_any (same_finding f) tight)) found) ++ map (remark false) s.byte_order.items
    in let T = map (remark true) tight
    in let W = map (remark true) s.warnings.items
    in subst (λ rs. IsPermutation (remarks s) rs)
    (ap (λ rs. R ++ rs) (map-append (remark true) tight s.warnings.items) ∙ sym (append_assoc R T W))
    (IsPermutation-append (map (remark false) (wrong s)) R (map (remark true) (tight_slots s.description ++ s.warnings.items)) (map (remark true) (tight ++ s.warnings.items))
    (wrong-remarks s found tight all tights)
    (IsPermutation-map (remark true) (tight_slots s.description ++ s.warnings.items) (tight ++ s.warnings.items)
    (IsPermutation-append_left s.warnings.items (tight_slots s.description) tight tights)))

pub wrong-length : (s : Normalized) (rs : List Remark) → IsPermutation (map (remark false) (wrong s)) rs → length rs ≡ length (wrong s)
wrong-length s rs same = length_permutation (map (remark false) (wrong s)) rs same ∙ length-map (wrong s) (remark false)

pub what-is-free : (s : Normalized) → wrong s ≡ [] → HasOnlyShortSlots s.description
what-is-free s free = sound-where-tight s.description (nil-front (filter (λ f. not (is_tight s.description f)) (candidates s.description)) s.byte_order.items free)

-- ---- at most one list is the answer

remark_total : IsTotalOrder remark_cmp
remark_total = then_total (on_total (λ (r : Remark). r.finding) finding_total) (on_total (λ (r : Remark). r.is_warning) bool_cmp_total)

words-tied : (a b : Bool) → bool_cmp a b ≡ Equal → a ≡ b
words-tied false false e = refl
words-tied false true e = absurd (cc)
words-tied true false e = absurd (cc)
words-tied true true e = refl

remarks_tied : (a b : Remark) → remark_cmp a b ≡ Equal → a ≡ b
remarks_tied a b e =
    let parts = then_tied (finding_cmp a.finding b.finding) (bool_cmp a.is_warning b.is_warning) e
    in let finding : a.finding ≡ b.finding = findings_tied a.finding b.finding parts.0
    in let is_warning : a.is_warning ≡ b.is_warning = words-tied a.is_warning b.is_warning parts.1
    in λ i. record { finding = finding i; is_warning = is_warning i }

pub one-answer : (s : Normalized) (rs other : List Remark) → AreRemarks s rs → AreRemarks s other → rs ≡ other
one-answer s rs other is also =
    ordered_once remark_cmp remark_total remarks_tied rs other is.ordered also.ordered
    (λ f. sum_by-IsPermutation f (remarks s) rs is.all ∙ sym (sum_by-IsPermutation f (remarks s) other also.all))

-- ---- from the code's lists

pub none-short : (d : Description) (found : List Finding) → IsPermutation (candidates d) found → list_any (λ (f : Finding). f.number == 9) found ≡ false → tight_slots d ≡ []
none-short d found all none =
    none-tight d (All-permutation (λ (f : Finding). f.number ≢ 9) found (candidates d) (IsPermutation-sym (candidates d) found all)
    (λ k f lt. eqb-false (get_or found k f).number 9 (none-has (λ (g : Finding). g.number == 9) found none k f lt)))

-- what the vector of remarks holds: what is wrong, and then all
pub record Told (s : Normalized) (wrongs all : List Remark) : Type 0 where
  pub wrongs-are : IsPermutation (map (remark false) (wrong s)) wrongs
  pub all-are : IsPermutation (remarks s) all

pub told : (s : Normalized) (found tight bs ws : List Finding) (r0 r1 r2 r3 r4 : List Remark) → IsPermutation (candidates s.description) found → IsPermutation (tight_slots s.description) tight → bs ≡ s.byte_order.items → ws ≡ s.warnings.items
    → r0 ≡ [] → IsPermutation (r0 ++ map (remark false) (filter (λ f. not (list_any (same_finding f) tight)) found)) r1 → r2 ≡ r1 ++ map (remark false) bs → r3 ≡ r2 ++ map (remark true) tight → r4 ≡ r3 ++ map (remark true) ws
    → Told s r2 r4
told s found tight bs ws r0 r1 r2 r3 r4 founds tights b w e0 e1 e2 e3 e4 =
    let F = map (remark false) (filter (λ f. not (list_any (same_finding f) tight)) found)
    in let B = map (remark false) s.byte_order.items
    in let T = map (remark true) tight
    in let W = map (remark true) s.warnings.items
    in let first : IsPermutation F r1 = subst (λ (rs : List Remark). IsPermutation (rs ++ F) r1) e0 e1
    in let second : r2 ≡ r1 ++ B = e2 ∙ ap (λ fs. r1 ++ map (remark false) fs) b
    in let two : IsPermutation (F ++ B) r2 = subst (λ rs. IsPermutation (F ++ B) rs) (sym second) (IsPermutation-append_left B F r1 first)
    in let fourth : r4 ≡ r2 ++ T ++ W = e4 ∙ (λ i. e3 i ++ map (remark true) (w i))
    in let four : IsPermutation (F ++ B ++ T ++ W) r4 =
    subst (λ rs. IsPermutation (F ++ B ++ T ++ W) rs) (sym fourth)
    (IsPermutation-append_left W (F ++ B ++ T) (r2 ++ T) (IsPermutation-append_left T (F ++ B) r2 two))
    in record {
      wrongs-are = IsPermutation-trans (map (remark false) (wrong s)) (F ++ B) r2 (wrong-remarks s found tight founds tights) two;
      all-are = IsPermutation-trans (remarks s) (F ++ B ++ T ++ W) r4 (all-remarks s found tight founds tights) four;
    }

-- ---- where nothing is remarked

nil-map : {X Y : Type 0} (f : X → Y) (xs : List X) → map f xs ≡ [] → xs ≡ []
nil-map f [] e = refl
nil-map f (x ∷ xs) e = absurd (cc)

nil-back : {X : Type 0} (xs ys : List X) → xs ++ ys ≡ [] → ys ≡ []
nil-back [] ys e = e
nil-back (x ∷ xs) ys e = absurd (cc)

-- nothing is tight, so that nothing is found
none-left : (tight : List Finding) (found : List Finding) → tight ≡ [] → All (λ f. list_any (same_finding f) tight ≡ true) found → found ≡ []
none-left tight [] none all = refl
none-left tight (f ∷ fs) none all =
    let h : list_any (same_finding f) [] ≡ true = subst (λ (ts : List Finding). list_any (same_finding f) ts ≡ true) none (All-head (λ g. list_any (same_finding g) tight ≡ true) f fs all)
    in absurd (cc)

pub silence : (s : Normalized) → AreRemarks s [] → IsFree s.description × (s.warnings.items ≡ []) × (s.byte_order.items ≡ [])
silence s are =
    let d = s.description
    in let none : remarks s ≡ [] = nil_from_length (remarks s) (sym (length_permutation (remarks s) [] are.all))
    in let right : wrong s ≡ [] = nil-map (remark false) (wrong s) (nil-front (map (remark false) (wrong s)) (map (remark true) (tight_slots d ++ s.warnings.items)) none)
    in let silent : tight_slots d ++ s.warnings.items ≡ [] = nil-map (remark true) (tight_slots d ++ s.warnings.items) (nil-back (map (remark false) (wrong s)) (map (remark true) (tight_slots d ++ s.warnings.items)) none)
    in let kept = filter (λ f. not (is_tight d f)) (candidates d)
    in (
      none-left (tight_slots d) (candidates d) (nil-front (tight_slots d) s.warnings.items silent) (kept-none (is_tight d) (candidates d) (nil-front kept s.byte_order.items right)),
      nil-back (tight_slots d) s.warnings.items silent,
      nil-back kept s.byte_order.items right,
    )
