-- Texts of the caller's in lines.
use Rattle.std.proofs.Common.{◌≡◌, ◌∙◌, ◌+◌, ◌-◌, ◌<◌, ◌≤◌, ◌==◌, ◌&&◌, ℕ, Bool, true, false, List, [], ◌∷◌, ◌++◌, refl, sym, ap, arith, drop, flat_map, get_or, if◌then◌else◌, length, map, not, slice_index, slice_index_or, suc, take, zero}
use Rattle.std.proofs.lemmas.Bool.{and_parts}
use Rattle.std.proofs.lemmas.Grind.{common_steps}
use Rattle.std.proofs.lemmas.List.{map-append, take_more}
use Rattle.lin_log.specs.CallerTexts.{seen_after, seen_byte, seen_text, seen_texts}
use Rattle.lin_log.specs.Laws.{is_quiet, no_end}
use Rattle.lin_log.proofs.Items.{and-no, both, joined}

-- one byte more
pub each-next : (f : ℕ → ℕ) (xs : List ℕ) (i d : ℕ) → i < length xs → map f (take (i + 1) xs) ≡ map f (take i xs) ++ f (get_or xs i d) ∷ []
each-next f xs i d h = ap (map f) (take_more xs i d h) ∙ map-append f (take i xs) (get_or xs i d ∷ [])

-- a list, by its first item and those after it
pub all-after : {X : Type 0} (y : X) (ys : List X) → take (length (y ∷ ys) - 1) ys ≡ ys
all-after y ys = grind (arith, common_steps)

pub first-and-rest : {X : Type 0} (xs : List X) (x : X) → 1 ≤ length xs → x ≡ slice_index_or xs 0 x
    → xs ≡ x ∷ take (length xs - 1) (drop 1 xs)
first-and-rest [] x h e = absurd (omega arith)
first-and-rest (y ∷ ys) x h e = let same : x ≡ y = e in rw same (ap (λ l. y ∷ l) (sym (all-after y ys)))

-- no text of the caller's in a line has an LF
seen-by : (b : ℕ) (t : Bool) → (b == 10) ≡ t → no_end (if t then 63 else b) ≡ true
seen-by b true e = refl
seen-by b false e = rw e refl

pub quiet-seen-text : (t : List ℕ) → is_quiet (seen_text t) ≡ true
quiet-seen-text [] = refl
quiet-seen-text (b ∷ bs) = both (no_end (seen_byte b)) (is_quiet (seen_text bs)) (seen-by b (b == 10) refl) (quiet-seen-text bs)

module _ (gap : List ℕ) (g : is_quiet gap ≡ true) where
  quiet-after : (ts : List (List ℕ)) → is_quiet (flat_map (seen_after gap) ts) ≡ true
  quiet-after [] = refl
  quiet-after (t ∷ ts) = joined no_end (seen_after gap t) (flat_map (seen_after gap) ts) (joined no_end gap (seen_text t) g (quiet-seen-text t)) (quiet-after ts)

  pub quiet-seen-texts : (ts : List (List ℕ)) → is_quiet (seen_texts gap ts) ≡ true
  quiet-seen-texts [] = refl
  quiet-seen-texts (t ∷ ts) = joined no_end (seen_text t) (flat_map (seen_after gap) ts) (quiet-seen-text t) (quiet-after ts)

-- a text without LF is seen as it is
same-by : (b : ℕ) (t : Bool) → (b == 10) ≡ t → no_end b ≡ true → (if t then 63 else b) ≡ b
same-by b true e h = absurd (let no : no_end b ≡ false = rw e refl in cc)
same-by b false e h = refl

pub quiet-same : (t : List ℕ) → is_quiet t ≡ true → seen_text t ≡ t
quiet-same [] h = refl
quiet-same (b ∷ bs) h =
    let p = and_parts (no_end b) (is_quiet bs) h in
    ap (λ x. x ∷ seen_text bs) (same-by b (b == 10) refl p.0) ∙ ap (λ l. b ∷ l) (quiet-same bs p.1)

-- whether a text has an LF
none-by : (b : ℕ) (t : Bool) → (b == 10) ≡ t → ((b == 10) ≡ true → ⊥) → not t ≡ true
none-by b true e h = absurd (h e)
none-by b false e h = refl

pub quiet-nowhere : (t : List ℕ) → ((k : ℕ) → 0 ≤ k → k < length t → (slice_index t k == 10) ≡ true → ⊥) → is_quiet t ≡ true
quiet-nowhere [] h = refl
quiet-nowhere (b ∷ bs) h =
    both (no_end b) (is_quiet bs) (none-by b (b == 10) refl (h 0 (omega arith) (omega arith))) (quiet-nowhere bs (λ k low less. h (suc k) (omega arith) (omega arith)))

pub quiet-not : (t : List ℕ) (k : ℕ) → k < length t → (slice_index t k == 10) ≡ true → is_quiet t ≡ false
quiet-not [] k less e = absurd (omega arith)
quiet-not (b ∷ bs) zero less e = ap (λ x. not x && is_quiet bs) e
quiet-not (b ∷ bs) (suc k) less e = and-no (no_end b) (is_quiet bs) (quiet-not bs k (omega arith) e)
