-- The lines of tokens, one by one; and what is found in them.
use Rattle.std.proofs.Common.{◌≡◌, ◌∙◌, ℕ, zero, suc, ◌≤◌, ◌<◌, true, false, cond, List, [], ◌∷◌, ◌++◌, length, append-nil, append_assoc, flat_map, map, refl, sym, ap, arith}
use Rattle.lin_ldf.specs.Symbols.{Symbol}
use Rattle.lin_sections.specs.Lines.{token_lines, lines_at}
use Rattle.lin_sections.specs.Passed.{behind_line, has_line}
use Rattle.lin_sections.proofs.PassedSteps.{shorter}

same-lines : (n m : ℕ) (ts : List Symbol) → length ts ≤ n → length ts ≤ m → lines_at n ts ≡ lines_at m ts
same-lines zero zero ts p q = refl
same-lines zero (suc m) [] p q = refl
same-lines zero (suc m) (t ∷ ts) p q = absurd (omega arith)
same-lines (suc n) zero [] p q = refl
same-lines (suc n) zero (t ∷ ts) p q = absurd (omega arith)
same-lines (suc n) (suc m) ts p q =
    elim (has_line ts) as (λ b. (has_line ts ≡ b) → cond {A = List (List Symbol)} b (ts ∷ lines_at n (behind_line 0 ts)) [] ≡ cond b (ts ∷ lines_at m (behind_line 0 ts)) []) [
      | true ↦ λ e.
          let lt : length (behind_line 0 ts) < length ts = shorter ts e in
          ap (λ (xs : List (List Symbol)). ts ∷ xs) (same-lines n m (behind_line 0 ts) (omega arith) (omega arith))
      | false ↦ λ e. refl
    ] refl

one-more : (ts : List Symbol) → has_line ts ≡ true → token_lines ts ≡ ts ∷ token_lines (behind_line 0 ts)
one-more [] h = absurd cc
one-more (t ∷ ts) h =
    let lt : length (behind_line 0 (t ∷ ts)) < length (t ∷ ts) = shorter (t ∷ ts) h in
    let same : lines_at (length ts) (behind_line 0 (t ∷ ts)) ≡ token_lines (behind_line 0 (t ∷ ts)) =
    same-lines (length ts) (length (behind_line 0 (t ∷ ts))) (behind_line 0 (t ∷ ts)) (omega arith) (omega arith) in
    rw h (ap (λ (xs : List (List Symbol)). (t ∷ ts) ∷ xs) same)

none-left : (ts : List Symbol) → has_line ts ≡ false → token_lines ts ≡ []
none-left [] h = refl
none-left (t ∷ ts) h = rw h refl

-- what was found so far, and what is in the lines that are left
pub lines-more : {A : Type 0} (f : List Symbol → List A) (ts us : List Symbol) (old new total : List A) → has_line ts ≡ true → us ≡ behind_line 0 ts → new ≡ old ++ f ts
    → old ++ flat_map f (token_lines ts) ≡ total → new ++ flat_map f (token_lines us) ≡ total
lines-more {A} f ts us old new total h passed added so_far =
    rw (passed, added) (append_assoc old (f ts) (flat_map f (token_lines (behind_line 0 ts)))
    ∙ (ap (λ (xs : List (List Symbol)). old ++ flat_map f xs) (sym (one-more ts h)) ∙ so_far))

pub lines-all : {A : Type 0} (f : List Symbol → List A) (ts : List Symbol) (found total : List A) → has_line ts ≡ false → found ++ flat_map f (token_lines ts) ≡ total → found ≡ total
lines-all f ts found total h so_far =
    sym (append-nil found) ∙ (ap (λ (xs : List (List Symbol)). found ++ flat_map f xs) (sym (none-left ts h)) ∙ so_far)

-- the same of one thing for each line
pub each-more : {A : Type 0} (f : List Symbol → A) (ts us : List Symbol) (old new total : List A) → has_line ts ≡ true → us ≡ behind_line 0 ts → new ≡ old ++ f ts ∷ []
    → old ++ map f (token_lines ts) ≡ total → new ++ map f (token_lines us) ≡ total
each-more {A} f ts us old new total h passed added so_far =
    rw (passed, added) (append_assoc old (f ts ∷ []) (map f (token_lines (behind_line 0 ts)))
    ∙ (ap (λ (xs : List (List Symbol)). old ++ map f xs) (sym (one-more ts h)) ∙ so_far))

pub each-all : {A : Type 0} (f : List Symbol → A) (ts : List Symbol) (found total : List A) → has_line ts ≡ false → found ++ map f (token_lines ts) ≡ total → found ≡ total
each-all f ts found total h so_far =
    sym (append-nil found) ∙ (ap (λ (xs : List (List Symbol)). found ++ map f xs) (sym (none-left ts h)) ∙ so_far)

pub line-less : (ts us : List Symbol) → has_line ts ≡ true → us ≡ behind_line 0 ts → length us < length ts
line-less ts us h passed = rw passed (shorter ts h)
