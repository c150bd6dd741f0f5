-- Texts that come several times, and their places.
use Rattle.std.proofs.Common.{◌≡◌, ◌+◌, ◌<◌, ◌≤◌, ◌++◌, ℕ, zero, suc, Bool, true, false, cond, List, [], ◌∷◌, length, map, min, take, drop, get_or, set, arith, refl, sym, ap, subst, append-nil, append_assoc, length-append, ◌∙◌}
use Rattle.std.specs.Prelude.{if◌then◌else◌, Option, Some, unwrap_or, zip}
use Rattle.std.specs.Str.{bytes_eq}
use Rattle.std.proofs.lemmas.List.{drop_all, get_or_default, take_all, take_more}
use Rattle.std.proofs.lemmas.List.Sums.{count_by-le-length, sum_by-append}
use Rattle.std.proofs.lemmas.Slice.Eq.{bytes_eq-Decides}
use Rattle.lin_sections.specs.Numbering.{all_numbered, count_of, repeats, repeats_behind}

counted-one : (text q : List ℕ) → count_of (text ∷ []) q ≡ cond (bytes_eq text q) 1 0
counted-one text q = grind arith

-- how many a text is among one more
pub counted-more : (texts : List (List ℕ)) (text q : List ℕ)
    → count_of (texts ++ text ∷ []) q ≡ count_of texts q + cond (bytes_eq text q) 1 0
counted-more texts text q =
    sum_by-append (λ t. cond (bytes_eq t q) 1 0) texts (text ∷ []) ∙ ap (λ n. count_of texts q + n) (counted-one text q)

pub counted-few : (texts : List (List ℕ)) (q : List ℕ) → count_of texts q ≤ length texts
counted-few texts q = count_by-le-length (λ t. bytes_eq t q) texts

one-counted : (b : Bool) (n k : ℕ) (old new : Option ℕ) → new ≡ (if b then Some n else old) → unwrap_or old 0 ≡ k
    → (b ≡ true → n ≡ k + 1) → unwrap_or new 0 ≡ k + cond b 1 0
one-counted true n k old new is before here = ap (λ o. unwrap_or o 0) is ∙ here refl
one-counted false n k old new is before here =
    let same : unwrap_or new 0 ≡ k = ap (λ o. unwrap_or o 0) is ∙ before in omega arith

-- a text that was counted
pub counts-more : (texts : List (List ℕ)) (text : List ℕ) (n : ℕ) (old new : List ℕ → Option ℕ)
    → ((q : List ℕ) → unwrap_or (old q) 0 ≡ count_of texts q) → n ≡ count_of texts text + 1
    → ((q : List ℕ) → new q ≡ (if bytes_eq text q then Some n else old q))
    → (q : List ℕ) → unwrap_or (new q) 0 ≡ count_of (texts ++ text ∷ []) q
counts-more texts text n old new are is after q =
    one-counted (bytes_eq text q) n (count_of texts q) (old q) (new q) (after q) (are q)
    (λ same. subst (λ t. n ≡ count_of texts t + 1) ((bytes_eq-Decides text q).0 same) is)
    ∙ sym (counted-more texts text q)

repeats-behind-more : (before ts : List (List ℕ)) (t : List ℕ)
    → repeats_behind before (ts ++ t ∷ []) ≡ repeats_behind before ts ++ count_of (before ++ ts) t ∷ []
repeats-behind-more before [] t = ap (λ us. count_of us t ∷ []) (sym (append-nil before))
repeats-behind-more before (u ∷ ts) t =
    ap (λ ns. count_of before u ∷ ns)
    (repeats-behind-more (before ++ u ∷ []) ts t
    ∙ ap (λ us. repeats_behind (before ++ u ∷ []) ts ++ count_of us t ∷ []) (append_assoc before (u ∷ []) ts))

-- one text more
pub repeats-more : (texts : List (List ℕ)) (i : ℕ) (d : List ℕ) → i < length texts
    → repeats (take (i + 1) texts) ≡ repeats (take i texts) ++ count_of (take i texts) (get_or texts i d) ∷ []
repeats-more texts i d lt = ap repeats (take_more texts i d lt) ∙ repeats-behind-more [] (take i texts) (get_or texts i d)

pub repeats-length : (before ts : List (List ℕ)) → length (repeats_behind before ts) ≡ length ts
repeats-length before [] = refl
repeats-length before (t ∷ ts) = ap (λ n. suc n) (repeats-length (before ++ t ∷ []) ts)

pub repeats-few : (before ts : List (List ℕ)) (i : ℕ) → get_or (repeats_behind before ts) i 0 ≤ length before + i
repeats-few before [] i = omega arith
repeats-few before (t ∷ ts) zero = let few : count_of before t ≤ length before = counted-few before t in omega arith
repeats-few before (t ∷ ts) (suc i) =
    let few : get_or (repeats_behind (before ++ t ∷ []) ts) i 0 ≤ length (before ++ t ∷ []) + i = repeats-few (before ++ t ∷ []) ts i in
    omega (arith, length-append before (t ∷ []))

-- a number is at most the place
pub few-before : (texts : List (List ℕ)) (i n : ℕ) → i < length texts → n ≡ get_or (repeats texts) i n → n ≤ i
few-before texts i n lt is =
    let size : length (repeats texts) ≡ length texts = repeats-length [] texts in
    let few : get_or (repeats texts) i 0 ≤ length {A = List ℕ} [] + i = repeats-few [] texts i in
    let same : get_or (repeats texts) i n ≡ get_or (repeats texts) i 0 = get_or_default (repeats texts) i n 0 (omega arith) in
    omega arith

pub none-numbered : {X : Type 0} (text_of : X → List ℕ) (with_text : List ℕ → X → X) (xs : List X) → length xs < 2
    → all_numbered text_of with_text xs ≡ xs
none-numbered text_of with_text [] l = refl
none-numbered text_of with_text (x ∷ []) l = refl
none-numbered text_of with_text (x ∷ y ∷ xs) l = absurd (omega arith)

-- ---- one of two lists that go together

pub zipped-at : {A B C : Type 0} (f : A → B → C) (xs : List A) (ys : List B) (i : ℕ) (x : A) (y : B) (z : C)
    → i < length xs → i < length ys → get_or (map (λ (p : A × B). f p.0 p.1) (zip xs ys)) i z ≡ f (get_or xs i x) (get_or ys i y)
zipped-at f [] ys i x y z l m = absurd (omega arith)
zipped-at f (a ∷ xs) [] i x y z l m = absurd (omega arith)
zipped-at f (a ∷ xs) (b ∷ ys) zero x y z l m = refl
zipped-at f (a ∷ xs) (b ∷ ys) (suc i) x y z l m = zipped-at f xs ys i x y z (omega arith) (omega arith)

pub zipped-length : {A B C : Type 0} (f : A → B → C) (xs : List A) (ys : List B) → length xs ≡ length ys
    → length (map (λ (p : A × B). f p.0 p.1) (zip xs ys)) ≡ length ys
zipped-length f [] [] e = refl
zipped-length f [] (b ∷ ys) e = absurd (omega arith)
zipped-length f (a ∷ xs) [] e = absurd (omega arith)
zipped-length f (a ∷ xs) (b ∷ ys) e = ap (λ n. suc n) (zipped-length f xs ys (omega arith))

-- ---- a list that is written from its front on

pub set-between : {A : Type 0} (xs ys : List A) (i : ℕ) (x : A) → i < length xs → length xs ≡ length ys → get_or xs i x ≡ x
    → set (take i xs ++ drop i ys) i x ≡ take (suc i) xs ++ drop (suc i) ys
set-between [] ys i x l e is = absurd (omega arith)
set-between (a ∷ xs) [] i x l e is = absurd (omega arith)
set-between (a ∷ xs) (b ∷ ys) zero x l e is = ap (λ v. v ∷ ys) (sym is)
set-between (a ∷ xs) (b ∷ ys) (suc i) x l e is = ap (λ vs. a ∷ vs) (set-between xs ys i x (omega arith) (omega arith) is)

pub kept-between : {A : Type 0} (xs ys : List A) (i : ℕ) (d : A) → i < length xs → length xs ≡ length ys → get_or xs i d ≡ get_or ys i d
    → take i xs ++ drop i ys ≡ take (suc i) xs ++ drop (suc i) ys
kept-between [] ys i d l e is = absurd (omega arith)
kept-between (a ∷ xs) [] i d l e is = absurd (omega arith)
kept-between (a ∷ xs) (b ∷ ys) zero d l e is = ap (λ v. v ∷ ys) (sym is)
kept-between (a ∷ xs) (b ∷ ys) (suc i) d l e is = ap (λ vs. a ∷ vs) (kept-between xs ys i d (omega arith) (omega arith) is)

between-at : {A : Type 0} (xs ys : List A) (i : ℕ) (d : A) → i < length ys → length xs ≡ length ys → get_or (take i xs ++ drop i ys) i d ≡ get_or ys i d
between-at xs [] i d l e = absurd (omega arith)
between-at [] (b ∷ ys) i d l e = absurd (omega arith)
between-at (a ∷ xs) (b ∷ ys) zero d l e = refl
between-at (a ∷ xs) (b ∷ ys) (suc i) d l e = between-at xs ys i d (omega arith) (omega arith)

-- all of a list that is written
pub all-between : {A : Type 0} (xs ys : List A) (i : ℕ) → length xs ≡ length ys → length ys ≤ i → take i xs ++ drop i ys ≡ xs
all-between xs ys i e le =
    ap (λ v. v ++ drop i ys) (take_all i xs (omega arith)) ∙ ap (λ v. xs ++ v) (drop_all i ys le) ∙ append-nil xs

-- an item more that has its number
pub one-numbered : {A : Type 0} (f : ℕ → A → A) (counts : List ℕ) (xs now : List A) (i count : ℕ) (x y : A) → i < length xs → length counts ≡ length xs
    → now ≡ take i (map (λ (p : ℕ × A). f p.0 p.1) (zip counts xs)) ++ drop i xs → x ≡ get_or now i x → count ≡ get_or counts i count → y ≡ f count x
    → set now i y ≡ take (suc i) (map (λ (p : ℕ × A). f p.0 p.1) (zip counts xs)) ++ drop (suc i) xs
one-numbered {A} f counts xs now i count x y lt size is at counted new =
    let all : List A = map (λ (p : ℕ × A). f p.0 p.1) (zip counts xs) in
    let same : length all ≡ length xs = zipped-length f counts xs size in
    let here : x ≡ get_or xs i x = at ∙ ap (λ v. get_or v i x) is ∙ between-at all xs i x lt same in
    let made : get_or all i y ≡ y =
    zipped-at f counts xs i 0 x y (omega arith) lt ∙ ap (λ n. f n (get_or xs i x)) (get_or_default counts i 0 count (omega arith) ∙ sym counted) ∙ ap (f count) (sym here) ∙ sym new in
    ap (λ v. set v i y) is ∙ set-between all xs i y (omega arith) same made

-- ---- the first items of two lists that go together

pub pairs-more : {A B : Type 0} (xs : List A) (ys : List B) (i : ℕ) (x : A) (y : B) → i < length xs → i < length ys
    → zip (take (suc i) xs) (take (suc i) ys) ≡ zip (take i xs) (take i ys) ++ (get_or xs i x, get_or ys i y) ∷ []
pairs-more [] ys i x y l m = absurd (omega arith)
pairs-more (a ∷ xs) [] i x y l m = absurd (omega arith)
pairs-more (a ∷ xs) (b ∷ ys) zero x y l m = refl
pairs-more (a ∷ xs) (b ∷ ys) (suc i) x y l m = ap (λ ps. (a, b) ∷ ps) (pairs-more xs ys i x y (omega arith) (omega arith))

pub pairs-all : {A B : Type 0} (xs : List A) (ys : List B) (i : ℕ) → i ≡ min (length xs) (length ys)
    → zip (take i xs) (take i ys) ≡ zip xs ys
pairs-all [] ys zero e = refl
pairs-all [] ys (suc i) e = absurd (omega arith)
pairs-all (a ∷ xs) [] zero e = refl
pairs-all (a ∷ xs) [] (suc i) e = absurd (omega arith)
pairs-all (a ∷ xs) (b ∷ ys) zero e = absurd (omega arith)
pairs-all (a ∷ xs) (b ∷ ys) (suc i) e = ap (λ ps. (a, b) ∷ ps) (pairs-all xs ys i (omega arith))
