-- A line without `$` has no parameter.
use Rattle.std.proofs.Common.{◌≡◌, ◌==◌, ◌||◌, ◌∙◌, ℕ, Bool, true, false, not, List, [], ◌∷◌, cond, filter, refl, sym, ap}
use Rattle.std.specs.List.{list_any, onto_first, slice_split, take_while}
use Rattle.std.proofs.lemmas.List.Sums.{take_while-cons}
use Rattle.lin_log.specs.Said.{is_comment, is_gap, is_not_empty}
use Rattle.lin_bench.specs.Fields.{line_fields}
use Rattle.lin_bench.specs.Resolved.{names_parameter}
use Rattle.lin_bench.proofs.PlainFields.{names-nothing, or-false}

abbrev pub has_dollar : List ℕ → Bool
has_dollar text = list_any (λ b. b == 36) text

onto-clean : (b : ℕ) (ps : List (List ℕ)) → (b == 36) ≡ false → list_any has_dollar ps ≡ false → list_any has_dollar (onto_first b ps) ≡ false
onto-clean b [] h k = rw h refl
onto-clean b (p ∷ ps) h k = let q = or-false (has_dollar p) (list_any has_dollar ps) k in rw (h, q.0, q.1) refl

piece-by : (t : Bool) (b : ℕ) (ps : List (List ℕ)) → (b == 36) ≡ false → list_any has_dollar ps ≡ false
    → list_any has_dollar (cond t ([] ∷ ps) (onto_first b ps)) ≡ false
piece-by true b ps h k = k
piece-by false b ps h k = onto-clean b ps h k

pieces-clean : (g : ℕ → Bool) (l : List ℕ) → has_dollar l ≡ false → list_any has_dollar (slice_split g l) ≡ false
pieces-clean g [] h = refl
pieces-clean g (b ∷ l) h =
    let q = or-false (b == 36) (has_dollar l) h in piece-by (g b) b (slice_split g l) q.0 (pieces-clean g l q.1)

filter-by : (f : List ℕ → Bool) (t : Bool) (p : List ℕ) (ps : List (List ℕ)) → f p ≡ t → has_dollar p ≡ false
    → list_any has_dollar (filter f ps) ≡ false → list_any has_dollar (filter f (p ∷ ps)) ≡ false
filter-by f true p ps e h k = rw e (rw (h, k) refl)
filter-by f false p ps e h k = rw e k

filter-clean : (f : List ℕ → Bool) (ps : List (List ℕ)) → list_any has_dollar ps ≡ false → list_any has_dollar (filter f ps) ≡ false
filter-clean f [] h = refl
filter-clean f (p ∷ ps) h =
    let q = or-false (has_dollar p) (list_any has_dollar ps) h in filter-by f (f p) p ps refl q.0 (filter-clean f ps q.1)

while-by : (f : List ℕ → Bool) (t : Bool) (p : List ℕ) (ps : List (List ℕ)) → f p ≡ t → has_dollar p ≡ false
    → list_any has_dollar (take_while f ps) ≡ false → list_any has_dollar (take_while f (p ∷ ps)) ≡ false
while-by f true p ps e h k = rw (take_while-cons f p ps, e) (rw (h, k) refl)
while-by f false p ps e h k = rw (take_while-cons f p ps, e) refl

while-clean : (f : List ℕ → Bool) (ps : List (List ℕ)) → list_any has_dollar ps ≡ false → list_any has_dollar (take_while f ps) ≡ false
while-clean f [] h = refl
while-clean f (p ∷ ps) h =
    let q = or-false (has_dollar p) (list_any has_dollar ps) h in while-by f (f p) p ps refl q.0 (while-clean f ps q.1)

none-named : (fs : List (List ℕ)) → list_any has_dollar fs ≡ false → list_any names_parameter fs ≡ false
none-named [] h = refl
none-named (f ∷ fs) h =
    let q = or-false (has_dollar f) (list_any has_dollar fs) h in rw (names-nothing f q.0, none-named fs q.1) refl

pub without-dollar : (l : List ℕ) → has_dollar l ≡ false → list_any names_parameter (line_fields l) ≡ false
without-dollar l h =
    none-named (line_fields l)
    (while-clean (λ f. not (is_comment true f)) (filter is_not_empty (slice_split (is_gap true) l))
    (filter-clean is_not_empty (slice_split (is_gap true) l) (pieces-clean (is_gap true) l h)))
