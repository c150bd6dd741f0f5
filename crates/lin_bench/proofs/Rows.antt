-- Rows of which each adds what it stands for to what stood there.
use Rattle.std.proofs.Common.{◌≡◌, ◌∙◌, ℕ, suc, zero, ◌-◌, ◌==◌, ◌+◌, ◌<◌, ◌≤◌, Bool, true, false, List, [], ◌∷◌, ◌++◌, Option, Some, None, option_map, refl, sym, ap, append_assoc, append-nil, arith, drop, get_or, length, take}
use Rattle.std.specs.Option.{option_map_or}
use Rattle.std.proofs.lemmas.Grind.{common_steps}
use Rattle.lin_bench.specs.RuleLines.{AddsRow, all_parts, row_of_pairs}

abbrev pub behind : {A : Type 0} → List A → Option (List A) → Option (List A)
behind xs o = option_map (λ more. xs ++ more) o

pub behind-one : {A : Type 0} (xs : List A) (x : A) (o : Option (List A)) → behind xs (option_map (λ more. x ∷ more) o) ≡ behind (xs ++ x ∷ []) o
behind-one xs x None = refl
behind-one xs x (Some more) = ap Some (sym (append_assoc xs (x ∷ []) more))

pub behind-append : {A : Type 0} (xs ys : List A) (o : Option (List A)) → behind xs (behind ys o) ≡ behind (xs ++ ys) o
behind-append xs ys None = refl
behind-append xs ys (Some more) = ap Some (sym (append_assoc xs ys more))

pub is-added : {A : Type 0} (r : Option (List A)) (old new : List A) → behind old r ≡ Some new → AddsRow r old true new
is-added None old new h = cc
is-added (Some more) old new h = (refl, cc)

pub is-not-added : {A : Type 0} (r : Option (List A)) (old new : List A) → behind old r ≡ None → AddsRow r old false new
is-not-added None old new h = refl
is-not-added (Some more) old new h = cc

pub not-added : {A : Type 0} (r : Option (List A)) (old new : List A) → AddsRow r old false new → r ≡ None
not-added None old new h = refl
not-added (Some more) old new h = let e = h.0 in cc

pub is-whole : {A : Type 0} (r : Option (List A)) (new : List A) → AddsRow r [] true new → r ≡ Some new
is-whole None new h = cc
is-whole (Some more) new h = ap Some (sym h.1)

-- ---- rows of signs, two and two
two-left : (x y : ℕ) (zs : List ℕ) → take (length (x ∷ y ∷ zs) - 2) zs ≡ zs
two-left x y zs = grind (arith, common_steps)

pub row-next : {A : Type 0} (pair : ℕ → ℕ → Option A) (xs : List ℕ) (one : A) → 2 ≤ length xs → pair (get_or xs 0 0) (get_or xs 1 0) ≡ Some one
    → row_of_pairs pair xs ≡ option_map (λ others. one ∷ others) (row_of_pairs pair (take (length xs - 2) (drop 2 xs)))
row-next pair [] one h e = absurd (omega arith)
row-next pair (x ∷ []) one h e = absurd (omega arith)
row-next pair (x ∷ y ∷ zs) one h e = rw (e, two-left x y zs) refl

pub row-ends : {A : Type 0} (pair : ℕ → ℕ → Option A) (xs : List ℕ) → 2 ≤ length xs → pair (get_or xs 0 0) (get_or xs 1 0) ≡ None → row_of_pairs pair xs ≡ None
row-ends pair [] h e = absurd (omega arith)
row-ends pair (x ∷ []) h e = absurd (omega arith)
row-ends pair (x ∷ y ∷ zs) h e = rw e refl

pub row-is-over : {A : Type 0} (pair : ℕ → ℕ → Option A) (xs : List ℕ) (is : Bool) (r : Option (List A)) (old new : List A) → length xs < 2
    → is ≡ (length xs == 0) → behind old r ≡ behind new (row_of_pairs pair xs) → AddsRow r old is new
row-is-over pair [] is r old new h e same = rw e (is-added r old new (same ∙ ap Some (append-nil new)))
row-is-over pair (x ∷ []) is r old new h e same = rw e (is-not-added r old new same)
row-is-over pair (x ∷ y ∷ zs) is r old new h e same = absurd (omega arith)

-- ---- rows in turn
step-adds : {A : Type 0} (o others : Option (List A)) (before new : List A) → AddsRow o before true new
    → behind before (option_map_or (λ some. behind some others) o None) ≡ behind new others
step-adds None others before new h = cc
step-adds (Some some) others before new h = behind-append before some others ∙ ap (λ l. behind l others) (sym h.1)

pub next-adds : {A : Type 0} (read : List ℕ → Option (List A)) (f : List ℕ) (left rest : List (List ℕ)) (is : Bool) (r : Option (List A)) (old before new : List A)
    → left ≡ f ∷ rest → is ≡ true → AddsRow (read f) before is new
    → behind old r ≡ behind before (all_parts read left) → behind old r ≡ behind new (all_parts read rest)
next-adds read f left rest is r old before new here was adds e =
    e ∙ ap (λ fs. behind before (all_parts read fs)) here ∙ step-adds (read f) (all_parts read rest) before new (rw was at adds)

pub next-fails : {A : Type 0} (read : List ℕ → Option (List A)) (f : List ℕ) (left rest : List (List ℕ)) (is : Bool) (r : Option (List A)) (old before new : List A)
    → left ≡ f ∷ rest → is ≡ false → AddsRow (read f) before is new
    → behind old r ≡ behind before (all_parts read left) → AddsRow r old false new
next-fails read f left rest is r old before new here was adds e =
    let none : read f ≡ None = not-added (read f) before new (rw was at adds) in
    is-not-added r old new (e ∙ ap (λ fs. behind before (all_parts read fs)) here ∙ rw none refl)

pub all-added : {A : Type 0} (read : List ℕ → Option (List A)) (left : List (List ℕ)) (r : Option (List A)) (old new : List A) → left ≡ []
    → behind old r ≡ behind new (all_parts read left) → AddsRow r old true new
all-added read left r old new none e =
    is-added r old new (e ∙ ap (λ fs. behind new (all_parts read fs)) none ∙ ap Some (append-nil new))

one-more : {A : Type 0} (o : Option (List A)) → option_map_or (λ some. behind some (Some [])) o None ≡ behind [] o
one-more None = refl
one-more (Some some) = ap Some (append-nil some)

in-turn : {A : Type 0} (o j last : Option (List A))
    → option_map_or (λ some. behind some (option_map_or (λ some. behind some last) j None)) o None
    ≡ option_map_or (λ some. behind some last) (option_map_or (λ some. behind some j) o None) None
in-turn None j last = refl
in-turn (Some a) None last = refl
in-turn (Some a) (Some b) last = behind-append a b last

joined-append : {A : Type 0} (read : List ℕ → Option (List A)) (fs : List (List ℕ)) (f : List ℕ)
    → all_parts read (fs ++ f ∷ []) ≡ option_map_or (λ some. behind some (read f)) (all_parts read fs) None
joined-append read [] f = one-more (read f)
joined-append read (g ∷ fs) f =
    ap (λ o. option_map_or (λ some. behind some o) (read g) None) (joined-append read fs f) ∙ in-turn (read g) (all_parts read fs) (read f)

last-step : {A : Type 0} (o last : Option (List A)) (is : Bool) (old mid new : List A) → AddsRow o old true mid → AddsRow last mid is new
    → AddsRow (option_map_or (λ some. behind some last) o None) old is new
last-step None last is old mid new h k = cc
last-step (Some a) None is old mid new h k = k
last-step (Some a) (Some b) is old mid new h k = (k.0, k.1 ∙ ap (λ l. l ++ b) h.1 ∙ append_assoc old a b)

pub last-adds : {A : Type 0} (read : List ℕ → Option (List A)) (fs : List (List ℕ)) (f : List ℕ) (was is : Bool) (old mid new : List A) → was ≡ true
    → AddsRow (all_parts read fs) old was mid → AddsRow (read f) mid is new → AddsRow (all_parts read (fs ++ f ∷ [])) old is new
last-adds read fs f was is old mid new e h k =
    rw (joined-append read fs f) (last-step (all_parts read fs) (read f) is old mid new (rw e at h) k)

pub first-fails : {A : Type 0} (read : List ℕ → Option (List A)) (fs : List (List ℕ)) (f : List ℕ) (was : Bool) (old mid new : List A) → was ≡ false
    → AddsRow (all_parts read fs) old was mid → AddsRow (all_parts read (fs ++ f ∷ [])) old false new
first-fails read fs f was old mid new e h =
    rw (joined-append read fs f, not-added (all_parts read fs) old mid (rw e at h)) refl
