-- The cases of tests, as checks are added.
use Rattle.std.proofs.Common.{◌≡◌, ◌≢◌, ◌∙◌, ◌==◌, ◌+◌, ◌<◌, ◌^◌, ℕ, zero, suc, Bool, true, false, List, [], ◌∷◌, ◌++◌, if◌then◌else◌, ap, append-nil, arith, filter, get_or, length, length-append, map, refl, set, sym, take}
use Rattle.std.specs.Prelude.{OnOk, Result, Ok, Err}
use Rattle.std.proofs.Math.Seq.{take-append_seam}
use Rattle.std.proofs.lemmas.Bool.{eq-eqb, ne_eqb}
use Rattle.std.proofs.lemmas.List.{map-append}
use Rattle.std.proofs.lemmas.List.Elements.{filter-append}
use Rattle.std.proofs.lemmas.List.Sums.{count_by-le-length, length-filter}
use Rattle.lin_parts.specs.declared.parts.Parts.{Parts}
use Rattle.lin_core.specs.declared.log.LogEntry.{LogEntry}
use Rattle.lin_bench.specs.Played.{is_unmet}
use Rattle.lin_bench.specs.declared.files.ScriptFile.{ScriptFile}
use Rattle.lin_bench.specs.declared.got.Judgement.{Judgement}
use Rattle.lin_tool.specs.Junit.{in_test, missed_texts, test_case, test_cases}
use Rattle.lin_tool.specs.Placing.{placed_missed}
use Rattle.lin_tool.specs.declared.junit.TestCase.{TestCase}

-- what follows where a result is good
pub on-ok : {X E : Type 0} (r : Result X E) {P Q : Type 0} → OnOk r P → (P → Q) → OnOk r Q
on-ok (Ok x) h f = f h
on-ok (Err fault) h f = tt

-- a slice of all items of a list, which was lent and changed
pub all-lent : {X : Type 0} (n : ℕ) (xs ys : List X) → length xs ≡ n → take n (xs ++ ys) ≡ xs
all-lent n xs ys long = ap (λ k. take k (xs ++ ys)) (sym long) ∙ take-append_seam xs ys

-- ---- the checks of a test, with one more
in-it : (t : ℕ) (js : List Judgement) (j : Judgement) → j.place.test ≡ t → in_test t (js ++ j ∷ []) ≡ in_test t js ++ j ∷ []
in-it t js j e =
    filter-append (λ (k : Judgement). k.place.test == t) js (j ∷ [])
    ∙ ap (λ (b : Bool). in_test t js ++ (if b then j ∷ [] else [])) (eq-eqb j.place.test t e)

not-in-it : (t : ℕ) (js : List Judgement) (j : Judgement) → j.place.test ≢ t → in_test t (js ++ j ∷ []) ≡ in_test t js
not-in-it t js j h =
    filter-append (λ (k : Judgement). k.place.test == t) js (j ∷ [])
    ∙ ap (λ (b : Bool). in_test t js ++ (if b then j ∷ [] else [])) (ne_eqb j.place.test t h) ∙ append-nil (in_test t js)

-- they are no more than all
pub few-in-test : (t : ℕ) (js : List Judgement) → length js + 1 < 2 ^ 63 → length (in_test t js) + 1 < 2 ^ 63
few-in-test t js h =
    let p = λ (k : Judgement). k.place.test == t in
    omega (arith, length-filter p js, count_by-le-length p js)

-- ---- the case of a test, with one more check
abbrev pub case_of : ℕ → List (List ℕ) → TestCase
case_of checks missed = record { checks = checks; missed = missed }

one-missed : (f : Judgement → List ℕ) (b : Bool) (j : Judgement) → map f (if b then j ∷ [] else []) ≡ (if b then f j ∷ [] else [])
one-missed f true j = refl
one-missed f false j = refl

missed-more : (file : List ℕ) (fs : List ScriptFile) (c : Parts) (log : List LogEntry) (js : List Judgement) (j : Judgement)
    → missed_texts file fs c log (js ++ j ∷ []) ≡ missed_texts file fs c log js ++ (if is_unmet j.judged then placed_missed file fs c log j ∷ [] else [])
missed-more file fs c log js j =
    let f = placed_missed file fs c log in
    let p = λ (k : Judgement). is_unmet k.judged in
    ap (map f) (filter-append p js (j ∷ [])) ∙ map-append f (filter p js) (filter p (j ∷ []))
    ∙ ap (λ l. map f (filter p js) ++ l) (one-missed f (is_unmet j.judged) j)

counted-more : (js : List Judgement) (j : Judgement) (n x : ℕ) → n ≡ length js → x ≡ n + 1 → x ≡ length (js ++ j ∷ [])
counted-more js j n x e is = omega (arith, length-append js (j ∷ []))

pub case-met : (file : List ℕ) (fs : List ScriptFile) (c : Parts) (log : List LogEntry) (js : List Judgement) (j : Judgement) (k : TestCase) (x : ℕ) → is_unmet j.judged ≡ false
    → k ≡ test_case file fs c log js → x ≡ k.checks + 1 → case_of x k.missed ≡ test_case file fs c log (js ++ j ∷ [])
case-met file fs c log js j k x h e is =
    ap (λ n. case_of n k.missed) (counted-more js j k.checks x (ap (λ (t : TestCase). t.checks) e) is)
    ∙ ap (case_of (length (js ++ j ∷ [])))
    (ap (λ (t : TestCase). t.missed) e ∙ sym (append-nil (missed_texts file fs c log js))
    ∙ ap (λ (b : Bool). missed_texts file fs c log js ++ (if b then placed_missed file fs c log j ∷ [] else [])) (sym h) ∙ sym (missed-more file fs c log js j))

pub case-unmet : (file : List ℕ) (fs : List ScriptFile) (c : Parts) (log : List LogEntry) (js : List Judgement) (j : Judgement) (k : TestCase) (x : ℕ) (text : List ℕ) → is_unmet j.judged ≡ true
    → text ≡ placed_missed file fs c log j → k ≡ test_case file fs c log js → x ≡ k.checks + 1
    → case_of x (k.missed ++ text ∷ []) ≡ test_case file fs c log (js ++ j ∷ [])
case-unmet file fs c log js j k x text h same e is =
    ap (λ n. case_of n (k.missed ++ text ∷ [])) (counted-more js j k.checks x (ap (λ (t : TestCase). t.checks) e) is)
    ∙ ap (case_of (length (js ++ j ∷ [])))
    (ap (λ t. k.missed ++ t ∷ []) same ∙ ap (λ (t : TestCase). t.missed ++ placed_missed file fs c log j ∷ []) e
    ∙ ap (λ (b : Bool). missed_texts file fs c log js ++ (if b then placed_missed file fs c log j ∷ [] else [])) (sym h) ∙ sym (missed-more file fs c log js j))

-- ---- the cases of all tests
pub length-cases : (file : List ℕ) (fs : List ScriptFile) (c : Parts) (log : List LogEntry) (t n : ℕ) (js : List Judgement) → length (test_cases file fs c log t n js) ≡ n
length-cases file fs c log t zero js = refl
length-cases file fs c log t (suc n) js = ap suc (length-cases file fs c log (t + 1) n js)

-- one case more without checks
pub no-cases : (file : List ℕ) (fs : List ScriptFile) (c : Parts) (log : List LogEntry) (t n : ℕ)
    → test_cases file fs c log t n [] ++ test_case file fs c log [] ∷ [] ≡ test_cases file fs c log t (suc n) []
no-cases file fs c log t zero = refl
no-cases file fs c log t (suc n) = ap (λ l. test_case file fs c log [] ∷ l) (no-cases file fs c log (t + 1) n)

-- that of a test
pub case-at : (file : List ℕ) (fs : List ScriptFile) (c : Parts) (log : List LogEntry) (t n : ℕ) (js : List Judgement) (i : ℕ) (d : TestCase) → i < n
    → get_or (test_cases file fs c log t n js) i d ≡ test_case file fs c log (in_test (t + i) js)
case-at file fs c log t zero js i d h = absurd (omega arith)
case-at file fs c log t (suc n) js zero d h = let same : t ≡ t + 0 = omega arith in ap (λ u. test_case file fs c log (in_test u js)) same
case-at file fs c log t (suc n) js (suc i) d h =
    let next : t + 1 + i ≡ t + suc i = omega arith in
    case-at file fs c log (t + 1) n js i d (omega arith) ∙ ap (λ u. test_case file fs c log (in_test u js)) next

-- a check in none of them
pub none-added : (file : List ℕ) (fs : List ScriptFile) (c : Parts) (log : List LogEntry) (t n : ℕ) (js : List Judgement) (j : Judgement) → ((i : ℕ) → i < n → j.place.test ≢ t + i)
    → test_cases file fs c log t n (js ++ j ∷ []) ≡ test_cases file fs c log t n js
none-added file fs c log t zero js j h = refl
none-added file fs c log t (suc n) js j h =
    let other : j.place.test ≢ t = omega (arith, h 0 (omega arith)) in
    let rest = none-added file fs c log (t + 1) n js j (λ i lt. omega (arith, h (i + 1) (omega arith))) in
    ap (λ l. test_case file fs c log l ∷ test_cases file fs c log (t + 1) n (js ++ j ∷ [])) (not-in-it t js j other)
    ∙ ap (λ l. test_case file fs c log (in_test t js) ∷ l) rest

-- a check in one of them
pub one-added : (file : List ℕ) (fs : List ScriptFile) (c : Parts) (log : List LogEntry) (t n : ℕ) (js : List Judgement) (j : Judgement) (i : ℕ) → i < n → j.place.test ≡ t + i
    → test_cases file fs c log t n (js ++ j ∷ []) ≡ set (test_cases file fs c log t n js) i (test_case file fs c log (in_test j.place.test js ++ j ∷ []))
one-added file fs c log t zero js j i h e = absurd (omega arith)
one-added file fs c log t (suc n) js j zero h e =
    let this : t ≡ j.place.test = omega arith in
    let rest = none-added file fs c log (t + 1) n js j (λ k lt. omega arith) in
    ap (λ l. test_case file fs c log l ∷ test_cases file fs c log (t + 1) n (js ++ j ∷ []))
    (ap (λ u. in_test u (js ++ j ∷ [])) this ∙ in-it j.place.test js j refl)
    ∙ ap (λ l. test_case file fs c log (in_test j.place.test js ++ j ∷ []) ∷ l) rest
one-added file fs c log t (suc n) js j (suc i) h e =
    let other : j.place.test ≢ t = omega arith in
    let rest = one-added file fs c log (t + 1) n js j i (omega arith) (omega arith) in
    ap (λ l. test_case file fs c log l ∷ test_cases file fs c log (t + 1) n (js ++ j ∷ [])) (not-in-it t js j other)
    ∙ ap (λ l. test_case file fs c log (in_test t js) ∷ l) rest
