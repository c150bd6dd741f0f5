-- Lines that are listed, by flags.
use Rattle.std.proofs.Common.{◌≡◌, ◌∙◌, ◌==◌, ◌<◌, ◌≢◌, ◌++◌, ℕ, zero, suc, Bool, true, false, List, [], ◌∷◌, Some, ap, arith, get_or, length, refl, set, sym}
use Rattle.std.specs.Prelude.{◌||◌, ◌&&◌, slice_get}
use Rattle.std.specs.Option.{option_map_or}
use Rattle.std.proofs.lemmas.Bool.Decides.{nat_tests}
use Rattle.std.proofs.lemmas.List.{get_or-set_other, get_or-set_same}

-- ---- the flags of a file
pub flag-more : (xs : List Bool) (k : ℕ) → get_or (xs ++ false ∷ []) k false ≡ get_or xs k false
flag-more [] zero = refl
flag-more [] (suc k) = refl
flag-more (x ∷ xs) zero = refl
flag-more (x ∷ xs) (suc k) = flag-more xs k

flag-by : (xs : List Bool) (i k : ℕ) (t : Bool) → (i == k) ≡ t → i < length xs → get_or (set xs i true) k false ≡ (i == k || get_or xs k false)
flag-by xs i k true h lt =
    let same : i ≡ k = grind (arith, nat_tests) in
    ap (λ j. get_or (set xs i true) j false) (sym same) ∙ get_or-set_same xs i true false lt ∙ sym (ap (λ b. b || get_or xs k false) h)
flag-by xs i k false h lt =
    let other : k ≢ i = grind (arith, nat_tests) in
    get_or-set_other xs i k true false other ∙ sym (ap (λ b. b || get_or xs k false) h)

pub flag-set : (xs : List Bool) (i k : ℕ) → i < length xs → get_or (set xs i true) k false ≡ (i == k || get_or xs k false)
flag-set xs i k lt = flag-by xs i k (i == k) refl lt

-- ---- the files
pub got-set : {A : Type 0} (vs : List A) (i : ℕ) (new : A) → i < length vs → slice_get (set vs i new) i ≡ Some new
got-set [] i new lt = absurd (omega (arith, lt))
got-set (v ∷ vs) zero new lt = refl
got-set (v ∷ vs) (suc i) new lt = got-set vs i new (omega (arith, lt))

other-set : {A : Type 0} (vs : List A) (i j : ℕ) (new : A) → j ≢ i → slice_get (set vs i new) j ≡ slice_get vs j
other-set [] i j new ne = refl
other-set (v ∷ vs) zero zero new ne = absurd (ne refl)
other-set (v ∷ vs) zero (suc j) new ne = refl
other-set (v ∷ vs) (suc i) zero new ne = refl
other-set (v ∷ vs) (suc i) (suc j) new ne = other-set vs i j new (λ e. ne (ap suc e))

module _ {A : Type 0} (items : A → List Bool) where
  abbrev pub flag_at : List A → ℕ → ℕ → Bool
  flag_at vs i k = get_or (option_map_or items (slice_get vs i) []) k false

  pub file-more : (vs : List A) (v : A) (i k : ℕ) → items v ≡ [] → flag_at (vs ++ v ∷ []) i k ≡ flag_at vs i k
  file-more [] v zero k e = ap (λ l. get_or l k false) e
  file-more [] v (suc i) k e = refl
  file-more (w ∷ ws) v zero k e = refl
  file-more (w ∷ ws) v (suc i) k e = file-more ws v i k e

  file-by : (vs : List A) (i j line k : ℕ) (v new : A) (t : Bool) → (i == j) ≡ t → i < length vs → slice_get vs i ≡ Some v
      → get_or (items new) k false ≡ (line == k || get_or (items v) k false) → flag_at (set vs i new) j k ≡ ((i == j && line == k) || flag_at vs j k)
  file-by vs i j line k v new true h lt here e =
      let same : i ≡ j = grind (arith, nat_tests) in
      let this : slice_get (set vs i new) j ≡ Some new = ap (slice_get (set vs i new)) (sym same) ∙ got-set vs i new lt in
      let was : slice_get vs j ≡ Some v = ap (slice_get vs) (sym same) ∙ here in
      ap (λ o. get_or (option_map_or items o []) k false) this ∙ e
      ∙ sym (ap (λ o. line == k || get_or (option_map_or items o []) k false) was)
      ∙ sym (ap (λ b. (b && line == k) || flag_at vs j k) h)
  file-by vs i j line k v new false h lt here e =
      let other : j ≢ i = grind (arith, nat_tests) in
      ap (λ o. get_or (option_map_or items o []) k false) (other-set vs i j new other)
      ∙ sym (ap (λ b. (b && line == k) || flag_at vs j k) h)

  pub file-set : (vs : List A) (i j line k : ℕ) (v new : A) → i < length vs → slice_get vs i ≡ Some v
      → get_or (items new) k false ≡ (line == k || get_or (items v) k false) → flag_at (set vs i new) j k ≡ ((i == j && line == k) || flag_at vs j k)
  file-set vs i j line k v new lt here e = file-by vs i j line k v new (i == j) refl lt here e
