-- The statements of tokens, one by one; and what is found in them.
use Rattle.std.proofs.Common.{◌≡◌, ◌≢◌, ◌∙◌, ℕ, zero, suc, ◌≤◌, ◌<◌, Bool, true, false, cond, List, [], ◌∷◌, ◌++◌, length, Option, Some, None, append-nil, append_assoc, flat_map, refl, sym, ap, arith}
use Rattle.std.specs.Prelude.{find}
use Rattle.lin_ldf.specs.Forms.{mark, Fails, ◌>>=◌}
use Rattle.lin_ldf.specs.GrammarLaws.{ended_by}
use Rattle.lin_ldf.specs.Laws.{mark_takes, right_take}
use Rattle.lin_ldf.specs.Stream.{start_of}
use Rattle.lin_ldf.specs.Symbols.{Symbol, symbols_in}
use Rattle.lin_ldf.specs.UpTo.{up_to}
use Rattle.lin_ldf.specs.UpToLaws.{up_to_lawful}
use Rattle.lin_ldf.specs.Words.{group, list}
use Rattle.lin_ldf.specs.declared.fault.LdfFault.{LdfFault}
use Rattle.lin_ldf.specs.declared.fault.LdfFault.TheVariants.{OutOfMemory}
use Rattle.lin_ldf.specs.declared.token.TokenKind.TheVariants.{OpenBrace, CloseBrace, Semicolon}
use Rattle.lin_sections.specs.Passed.{has_line}
use Rattle.lin_sections.specs.Statements.{tokens_left, behind_statement, is_group, statements, statements_at}
use Rattle.lin_sections.proofs.ReadingSteps.{tokens-are}
use Rattle.lin_sections.proofs.FormsTaking.{Leaves, after, keeping, taking}

-- ---- each takes a token

-- a fault but out of memory
pub reads-nothing : {Y : Type 0} (e : LdfFault) (o : Option Y) → e ≢ OutOfMemory → Fails e o → o ≡ None
reads-nothing OutOfMemory o other fails = absurd (other refl)
reads-nothing _ o other fails = fails

-- a source without text
pub nothing-ahead : symbols_in [] (start_of []).tokens ≡ []
nothing-ahead = ap (symbols_in []) (tokens-are [] [] ([], refl, refl))

group-leaves : (n : ℕ) (ts : List Symbol) → length ts < n → Leaves n (group.read ts)
group-leaves n ts h = keeping {f = group} n (right_take (mark_takes OpenBrace) (ended_by CloseBrace (up_to_lawful CloseBrace) (λ t us e. e))).lawful ts h

fewer : (n m : ℕ) (o : Option (Unit {0} × List Symbol)) → n ≤ m → Leaves n o → Leaves m o
fewer n m None le less = tt
fewer n m (Some read) le less = let lt : length read.1 < n = less in omega arith

-- (what is before the semicolon may be nothing, but the semicolon is taken)
list-leaves : (ts : List Symbol) → Leaves (length ts) (list.read ts)
list-leaves ts =
    elim ((up_to Semicolon).read ts) as (λ o. ((up_to Semicolon).read ts ≡ o) → Leaves (length ts) (o >>= λ a. (mark Semicolon).read a.1 >>= λ b. Some (a.0, b.1))) [
      | None ↦ λ e. tt
      | Some a ↦ λ e.
          let kept : length a.1 ≤ length ts = (up_to_lawful Semicolon).keeps ts a.0 a.1 e in
          after (length ts) ((mark Semicolon).read a.1) (λ b. Some (a.0, b.1)) (fewer (length a.1) (length ts) ((mark Semicolon).read a.1) kept (taking (mark Semicolon).read (mark_takes Semicolon).shrinks a.1)) (λ b less. less)
    ] refl

behind-shorter : (t : Symbol) (ts : List Symbol) (o : Option (Unit {0} × List Symbol)) → Leaves (length (t ∷ ts)) o → length (tokens_left o) < length (t ∷ ts)
behind-shorter t ts None less = omega arith
behind-shorter t ts (Some read) less = less

pub statement-shorter : (ts : List Symbol) → has_line ts ≡ true → length (behind_statement ts) < length ts
statement-shorter [] h = absurd cc
statement-shorter (t ∷ ts) h =
    let g : Leaves (length (t ∷ ts)) (group.read ts) = group-leaves (length (t ∷ ts)) ts (omega arith) in
    let l : Leaves (length (t ∷ ts)) (list.read (t ∷ ts)) = list-leaves (t ∷ ts) in
    elim (is_group (t ∷ ts)) as (λ b. length (tokens_left (cond b (group.read ts) (list.read (t ∷ ts)))) < length (t ∷ ts)) [
      | true ↦ behind-shorter t ts (group.read ts) g
      | false ↦ behind-shorter t ts (list.read (t ∷ ts)) l
    ]

-- ---- one more, or none

same-statements : (n m : ℕ) (ts : List Symbol) → length ts ≤ n → length ts ≤ m → statements_at n ts ≡ statements_at m ts
same-statements zero zero ts p q = refl
same-statements zero (suc m) [] p q = refl
same-statements zero (suc m) (t ∷ ts) p q = absurd (omega arith)
same-statements (suc n) zero [] p q = refl
same-statements (suc n) zero (t ∷ ts) p q = absurd (omega arith)
same-statements (suc n) (suc m) ts p q =
    elim (has_line ts) as (λ b. (has_line ts ≡ b) → cond {A = List (List Symbol)} b (ts ∷ statements_at n (behind_statement ts)) [] ≡ cond b (ts ∷ statements_at m (behind_statement ts)) []) [
      | true ↦ λ e.
          let lt : length (behind_statement ts) < length ts = statement-shorter ts e in
          ap (λ (xs : List (List Symbol)). ts ∷ xs) (same-statements n m (behind_statement ts) (omega arith) (omega arith))
      | false ↦ λ e. refl
    ] refl

pub one-more : (ts : List Symbol) → has_line ts ≡ true → statements ts ≡ ts ∷ statements (behind_statement ts)
one-more [] h = absurd cc
one-more (t ∷ ts) h =
    let lt : length (behind_statement (t ∷ ts)) < length (t ∷ ts) = statement-shorter (t ∷ ts) h in
    let same : statements_at (length ts) (behind_statement (t ∷ ts)) ≡ statements (behind_statement (t ∷ ts)) =
    same-statements (length ts) (length (behind_statement (t ∷ ts))) (behind_statement (t ∷ ts)) (omega arith) (omega arith) in
    rw h (ap (λ (xs : List (List Symbol)). (t ∷ ts) ∷ xs) same)

pub none-left : (ts : List Symbol) → has_line ts ≡ false → statements ts ≡ []
none-left [] h = refl
none-left (t ∷ ts) h = rw h refl

-- ---- what is found

pub nothing_more : {A : Type 0} (found : List A) → found ++ [] ≡ found
nothing_more found = append-nil found

-- what was found so far, and what is in the statements that are left
pub found-more : {A : Type 0} (f : List Symbol → List A) (ts us : List Symbol) (old new total : List A) → has_line ts ≡ true → us ≡ behind_statement ts → new ≡ old ++ f ts
    → old ++ flat_map f (statements ts) ≡ total → new ++ flat_map f (statements us) ≡ total
found-more {A} f ts us old new total h passed added so_far =
    rw (passed, added) (append_assoc old (f ts) (flat_map f (statements (behind_statement ts)))
    ∙ (ap (λ (xs : List (List Symbol)). old ++ flat_map f xs) (sym (one-more ts h)) ∙ so_far))

pub found-all : {A : Type 0} (f : List Symbol → List A) (ts : List Symbol) (found total : List A) → has_line ts ≡ false → found ++ flat_map f (statements ts) ≡ total → found ≡ total
found-all f ts found total h so_far =
    sym (append-nil found) ∙ (ap (λ (xs : List (List Symbol)). found ++ flat_map f xs) (sym (none-left ts h)) ∙ so_far)

-- the same of the statements themselves
pub noted-more : (ts us : List Symbol) (old new total : List (List Symbol)) → has_line ts ≡ true → us ≡ behind_statement ts → new ≡ old ++ ts ∷ []
    → old ++ statements ts ≡ total → new ++ statements us ≡ total
noted-more ts us old new total h passed added so_far =
    rw (passed, added) (append_assoc old (ts ∷ []) (statements (behind_statement ts))
    ∙ (ap (λ (xs : List (List Symbol)). old ++ xs) (sym (one-more ts h)) ∙ so_far))

pub noted-all : (ts : List Symbol) (noted total : List (List Symbol)) → has_line ts ≡ false → noted ++ statements ts ≡ total → noted ≡ total
noted-all ts noted total h so_far =
    sym (append-nil noted) ∙ (ap (λ (xs : List (List Symbol)). noted ++ xs) (sym (none-left ts h)) ∙ so_far)

pub statement-less : (ts us : List Symbol) → has_line ts ≡ true → us ≡ behind_statement ts → length us < length ts
statement-less ts us h passed = rw passed (statement-shorter ts h)

-- ---- the first statement that passes a test

pub found-first : (test : List Symbol → Bool) (ts : List Symbol) (total : Option (List Symbol)) → has_line ts ≡ true → test ts ≡ true → find test (statements ts) ≡ total → total ≡ Some ts
found-first test ts total h is so_far = sym so_far ∙ ap (find test) (one-more ts h) ∙ rw is refl

pub found-later : (test : List Symbol → Bool) (ts us : List Symbol) (total : Option (List Symbol)) → has_line ts ≡ true → test ts ≡ false → us ≡ behind_statement ts → find test (statements ts) ≡ total → find test (statements us) ≡ total
found-later test ts us total h isnt passed so_far =
    ap (λ vs. find test (statements vs)) passed ∙ sym (ap (find test) (one-more ts h) ∙ rw isnt refl) ∙ so_far

pub found-none : (test : List Symbol → Bool) (ts : List Symbol) (total : Option (List Symbol)) → has_line ts ≡ false → find test (statements ts) ≡ total → total ≡ None
found-none test ts total h so_far = sym so_far ∙ ap (find test) (none-left ts h)
