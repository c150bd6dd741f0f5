-- The checks that a row names: one check more.
use Rattle.std.proofs.Common.{◌≡◌, ◌∙◌, ◌+◌, ◌++◌, ℕ, Bool, true, false, if◌then◌else◌, List, [], ◌∷◌, ap, append-nil, append_assoc, drop, map, refl}
use Rattle.std.specs.Borrow.{Bor}
use Rattle.lin_parts.specs.declared.parts.Parts.{Parts}
use Rattle.lin_bench.specs.declared.got.Judgement.{Judgement}
use Rattle.lin_tool.specs.campaign.Checks.{check_of, firsts_after, is_named, is_wanted}
use Rattle.lin_tool.specs.declared.campaign.checks.Check.{Check}

by-named : (c : Parts) (failed : Bool) (before : List Check) (shown : List Judgement) (j : Judgement) (rest : List Judgement) (b : Bool)
    → is_wanted failed j ≡ true → is_named before (check_of c j) ≡ b
    → (shown ++ (if b then [] else j ∷ [])) ++ firsts_after c failed (before ++ (if b then [] else check_of c j ∷ [])) rest
    ≡ shown ++ firsts_after c failed before (j ∷ rest)
by-named c failed before shown j rest true wanted named = rw (wanted, named, append-nil shown, append-nil before) refl
by-named c failed before shown j rest false wanted named =
    rw (wanted, named) (append_assoc shown (j ∷ []) (firsts_after c failed (before ++ check_of c j ∷ []) rest))

-- a check that is wanted
pub wanted-more : (c : Parts) (failed : Bool) (before later : List Check) (shown now js : List Judgement) (i : ℕ) (j : Judgement)
    → drop i js ≡ j ∷ drop (i + 1) js → is_wanted failed j ≡ true
    → now ≡ shown ++ (if is_named before (check_of c j) then [] else j ∷ [])
    → later ≡ before ++ (if is_named before (check_of c j) then [] else check_of c j ∷ [])
    → now ++ firsts_after c failed later (drop (i + 1) js) ≡ shown ++ firsts_after c failed before (drop i js)
wanted-more c failed before later shown now js i j next wanted n l =
    rw (n, l, next) (by-named c failed before shown j (drop (i + 1) js) (is_named before (check_of c j)) wanted refl)

-- one that isn't
pub unwanted-more : (c : Parts) (failed : Bool) (before : List Check) (js : List Judgement) (i : ℕ) (j : Judgement)
    → drop i js ≡ j ∷ drop (i + 1) js → is_wanted failed j ≡ false
    → firsts_after c failed before (drop (i + 1) js) ≡ firsts_after c failed before (drop i js)
unwanted-more c failed before js i j next wanted = rw (next, wanted) refl

-- the texts of checks that are borrowed
borrowed : {X : Type 0} (f : Judgement → X) (bs : List (Bor Judgement)) → map (λ (b : Bor Judgement). f b.now) bs ≡ map f (map (λ (b : Bor Judgement). b.now) bs)
borrowed f [] = refl
borrowed f (b ∷ bs) = ap (λ l. f b.now ∷ l) (borrowed f bs)

pub texts-of : {X : Type 0} (f : Judgement → X) (bs : List (Bor Judgement)) (js : List Judgement) → map (λ (b : Bor Judgement). b.now) bs ≡ js
    → map (λ (b : Bor Judgement). f b.now) bs ≡ map f js
texts-of f bs js e = borrowed f bs ∙ ap (map f) e
