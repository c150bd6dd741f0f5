-- The statements up to the first one that fails a test, one by one.
use Rattle.std.proofs.Common.{◌≡◌, ◌∙◌, Bool, true, false, List, [], ◌∷◌, ◌++◌, append-nil, append_assoc, one-add, refl, sym, ap}
use Rattle.std.specs.Prelude.{take_while}
use Rattle.lin_ldf.specs.Symbols.{Symbol}
use Rattle.lin_sections.specs.Passed.{has_line}
use Rattle.lin_sections.specs.Statements.{behind_statement, statements}
use Rattle.lin_sections.proofs.StatementSteps.{none-left, one-more}

passing-first : {X : Type 0} (test : X → Bool) (x : X) (xs : List X) → test x ≡ true → take_while test (x ∷ xs) ≡ x ∷ take_while test xs
passing-first test x xs e = rw (e, one-add) refl

pub passing-more : (test : List Symbol → Bool) (ts us : List Symbol) (old new total : List (List Symbol)) → has_line ts ≡ true → test ts ≡ true
    → us ≡ behind_statement ts → new ≡ old ++ ts ∷ []
    → old ++ take_while test (statements ts) ≡ total → new ++ take_while test (statements us) ≡ total
passing-more test ts us old new total h passes passed added so_far =
    let first : take_while test (statements ts) ≡ ts ∷ take_while test (statements (behind_statement ts)) =
    ap (take_while test) (one-more ts h) ∙ passing-first test ts (statements (behind_statement ts)) passes in
    rw (passed, added) (append_assoc old (ts ∷ []) (take_while test (statements (behind_statement ts)))
    ∙ (ap (λ (xs : List (List Symbol)). old ++ xs) (sym first) ∙ so_far))

pub passing-all : (test : List Symbol → Bool) (ts : List Symbol) (found total : List (List Symbol)) → has_line ts ≡ false
    → found ++ take_while test (statements ts) ≡ total → found ≡ total
passing-all test ts found total h so_far =
    sym (append-nil found) ∙ (ap (λ (xs : List (List Symbol)). found ++ take_while test xs) (sym (none-left ts h)) ∙ so_far)

pub passing-no-more : (test : List Symbol → Bool) (ts : List Symbol) (found total : List (List Symbol)) → has_line ts ≡ true → test ts ≡ false
    → found ++ take_while test (statements ts) ≡ total → found ≡ total
passing-no-more test ts found total h fails so_far =
    let none : take_while test (statements ts) ≡ [] = ap (take_while test) (one-more ts h) ∙ rw fails refl in
    sym (append-nil found) ∙ (ap (λ (xs : List (List Symbol)). found ++ xs) (sym none) ∙ so_far)
