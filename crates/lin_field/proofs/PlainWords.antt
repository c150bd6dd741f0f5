-- Lists as they are written.
use Rattle.std.proofs.Common.{◌≡◌, ℕ, zero, suc, ◌+◌, ◌<◌, ◌≤◌, ◌-◌, ◌==◌, false, List, [], ◌∷◌, ◌++◌, Option, drop, take, length, get_or, map, flat_map, refl, sym, ap, ◌∙◌, append_assoc, append-nil, add-one, arith}
use Rattle.std.specs.Borrow.{Bor}
use Rattle.std.proofs.lemmas.Grind.{common_steps}
use Rattle.std.proofs.lemmas.List.{take_all}
use Rattle.std.proofs.lemmas.Slice.Zip.{get_or-zip, length-zip}
use Rattle.std.specs.Prelude.{zip}
use Rattle.lin_parts.specs.declared.description.TableEntry.{TableEntry}
use Rattle.lin_ldf.specs.declared.token.Token.{Token}
use Rattle.lin_ldf.specs.declared.token.TokenKind.TheVariants.{Semicolon}
use Rattle.lin_text.proofs.Growing.{grows-more, same-growth}
use Rattle.lin_text.specs.Written.{Grows}
use Rattle.lin_text.specs.declared.buffered.TextWriter.{TextWriter}
use Rattle.lin_field.specs.Plain.{after_commas, before_end, table_entries_text, entry_text, inside_at, comma_list, with_parts}

pub not-zero : (n : ℕ) → (n ≡ 0 → ⊥) → (n == 0) ≡ false
not-zero n h = grind (arith, common_steps)

-- the first item, and those after it
pub first-at : {A : Type 0} (text : A → List ℕ) (xs : List A) (d : A) → 1 ≤ length xs
    → text (get_or xs 0 d) ++ after_commas text (take (length xs - 1) (drop 1 xs)) ≡ comma_list text xs
first-at text [] d h = absurd (omega arith)
first-at text (y ∷ ys) d h = ap (λ l. text y ++ after_commas text l) (take_all (length (y ∷ ys) - 1) ys (omega arith))

pub first-and-more : {A : Type 0} (text : A → List ℕ) (xs : List A) (x : A) → 1 ≤ length xs → x ≡ get_or xs 0 x
    → text x ++ after_commas text (take (length xs - 1) (drop 1 xs)) ≡ comma_list text xs
first-and-more text xs x h e = ap (λ z. text z ++ after_commas text (take (length xs - 1) (drop 1 xs))) e ∙ first-at text xs x h

-- items one after the other, each with the part of its number, and one more
parts-next_suc : {A : Type 0} (text : A → List Token → List ℕ) (ps : List (List Token)) (n : ℕ) (xs : List A) (i : ℕ) (d : A) → i < length xs
    → with_parts text ps n (take (suc i) xs) ≡ with_parts text ps n (take i xs) ++ text (get_or xs i d) (inside_at ps (n + i))
parts-next_suc text ps n [] i d h = absurd (omega arith)
parts-next_suc text ps n (x ∷ xs) zero d h =
    let same : n ≡ n + 0 = omega arith in append-nil (text x (inside_at ps n)) ∙ ap (λ k. text x (inside_at ps k)) same
parts-next_suc text ps n (x ∷ xs) (suc i) d h =
    let first = text x (inside_at ps n) in
    let last = text (get_or xs i d) in
    let same : n + 1 + i ≡ n + suc i = omega arith in
    ap (λ l. first ++ l) (parts-next_suc text ps (n + 1) xs i d (omega arith))
    ∙ sym (append_assoc first (with_parts text ps (n + 1) (take i xs)) (last (inside_at ps (n + 1 + i))))
    ∙ ap (λ k. (first ++ with_parts text ps (n + 1) (take i xs)) ++ last (inside_at ps k)) same

pub grows-part : {W A : Type 0} {contents : W → Option (List ℕ)} {x y z : TextWriter W} (text : A → List Token → List ℕ) (ps : List (List Token)) (xs : List A) (i : ℕ) (item : A)
    → item ≡ get_or xs i item → i < length xs
    → Grows contents x y (with_parts text ps 0 (take i xs)) → Grows contents y z (text item (inside_at ps i)) → Grows contents x z (with_parts text ps 0 (take (i + 1) xs))
grows-part text ps xs i item is lt h k =
    let same : 0 + i ≡ i = omega arith in
    same-growth
    (ap (λ v. with_parts text ps 0 (take i xs) ++ text v (inside_at ps i)) is
    ∙ ap (λ n. with_parts text ps 0 (take i xs) ++ text (get_or xs i item) (inside_at ps n)) (sym same)
    ∙ sym (rw (add-one) (parts-next_suc text ps 0 xs i item lt)))
    (grows-more h k)

-- two lists item by item
pub pair-at : {A B : Type 0} (xs : List A) (ys : List B) (i : ℕ) (x : A) (y : B) → x ≡ get_or xs i x → y ≡ get_or ys i y → i < length xs → i < length ys
    → (x, y) ≡ get_or (zip xs ys) i (x, y)
pair-at xs ys i x y e f h k = ap (λ v. (v, y)) e ∙ ap (λ w. (get_or xs i x, w)) f ∙ sym (get_or-zip xs ys i (x, y) h k)

pub zip-long : {A B : Type 0} (xs : List A) (ys : List B) → length ys ≡ length xs → length (zip xs ys) ≡ length xs
zip-long xs ys same = let h = length-zip xs ys in omega (arith, same, h)

-- what is put of things that are lent is put of them
pub lent-texts : {A : Type 0} (f : A → List ℕ) (xs : List (Bor A)) → flat_map (λ x. f x.now) xs ≡ flat_map f (map (λ x. x.now) xs)
lent-texts f [] = refl
lent-texts f (x ∷ xs) = ap (λ l. f x.now ++ l) (lent-texts f xs)

-- the text of the first of some entries, and those after it
entries-next_suc : (source : List ℕ) (es : List TableEntry) (i : ℕ) (e : TableEntry) (ts : List Token) → e ≡ get_or es i e → i < length es
    → table_entries_text source (drop i es) ts ≡ entry_text source e ts ++ table_entries_text source (drop (suc i) es) (before_end Semicolon 0 ts).1
entries-next_suc source [] i e ts is h = absurd (omega arith)
entries-next_suc source (x ∷ es) zero e ts is h = ap (λ y. entry_text source y ts ++ table_entries_text source es (before_end Semicolon 0 ts).1) (sym is)
entries-next_suc source (x ∷ es) (suc i) e ts is h = entries-next_suc source es i e ts is (omega arith)

pub entries-next : (source : List ℕ) (es : List TableEntry) (i : ℕ) (e : TableEntry) (ts : List Token) → e ≡ get_or es i e → i < length es
    → table_entries_text source (drop i es) ts ≡ entry_text source e ts ++ table_entries_text source (drop (i + 1) es) (before_end Semicolon 0 ts).1
entries-next source es i e ts is h = rw (add-one) (entries-next_suc source es i e ts is h)
