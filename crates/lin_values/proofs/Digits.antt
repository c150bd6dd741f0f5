-- Digits of four bits, one after the other.
use Rattle.std.proofs.Common.{◌≡◌, ℕ, zero, suc, ◌+◌, ◌-◌, ◌*◌, ◌/◌, ◌%◌, ◌^◌, ◌<◌, ◌≤◌, ap, sym, ◌∙◌, subst, arith, refl, Option, Some, None, Bool, true, false, List, [], ◌∷◌, ◌++◌, nat_lt, option_map, append_assoc}
use Rattle.std.specs.List.{list_all}
use Rattle.std.proofs.lemmas.Grind.{common_steps}
use Rattle.std.proofs.lemmas.List.{append-nil}
use Rattle.std.proofs.lemmas.Nat.{pow-add}
use Rattle.std.proofs.lemmas.Iterator.Adapters.{option_map_id}
use Rattle.lin_values.specs.Meaning.{as_digits, fours}

pub sixteens : (k : ℕ) → 2 ^ (4 * k) ≡ 16 ^ k
sixteens zero = refl
sixteens (suc k) =
    let e : 4 * suc k ≡ 4 + 4 * k = omega arith in
    ap (λ i. 2 ^ i) e ∙ pow-add 2 4 (4 * k) ∙ ap (λ x. 16 * x) (sixteens k) ∙ sym (pow-add 16 1 k) ∙ ap (λ i. 16 ^ i) (let g : 1 + k ≡ suc k = omega arith in g)

-- the digits of all are those done, and then those of the rest
pub record DigitsSoFar (all done rest : List ℕ) : Type 0 where
  pub same : as_digits all ≡ option_map (λ r. done ++ r) (as_digits rest)

pub digits-start : (all : List ℕ) → DigitsSoFar all [] all
digits-start all = record { same = sym (option_map_id (as_digits all)) }

joined : (done : List ℕ) (x : ℕ) (o : Option (List ℕ)) → option_map (λ r. done ++ r) (option_map (λ r. x ∷ r) o) ≡ option_map (λ r. (done ++ x ∷ []) ++ r) o
joined done x None = refl
joined done x (Some r) = ap Some (sym (append_assoc done (x ∷ []) r))

small-is : (d : ℕ) → d < 10 → nat_lt d 10 ≡ true
small-is d h = grind (arith, common_steps)

large-is : (d : ℕ) → 10 ≤ d → nat_lt d 10 ≡ false
large-is d h = grind (arith, common_steps)

digits-small : (d : ℕ) (rest : List ℕ) (b : Bool) → nat_lt d 10 ≡ true → list_all (λ e. nat_lt e 10) rest ≡ b → as_digits (d ∷ rest) ≡ option_map (λ r. (48 + d) ∷ r) (as_digits rest)
digits-small d rest true s e = rw (s, e) refl
digits-small d rest false s e = rw (s, e) refl

pub digits-next : (all done rest : List ℕ) (d : ℕ) → d < 10 → DigitsSoFar all done (d ∷ rest) → DigitsSoFar all (done ++ (48 + d) ∷ []) rest
digits-next all done rest d h so = record {
  same =
      so.same ∙ ap (λ o. option_map (λ r. done ++ r) o) (digits-small d rest (list_all (λ e. nat_lt e 10) rest) (small-is d h) refl)
      ∙ joined done (48 + d) (as_digits rest);
}

pub digits-bad : (all done rest : List ℕ) (d : ℕ) → 10 ≤ d → DigitsSoFar all done (d ∷ rest) → as_digits all ≡ None
digits-bad all done rest d h so = rw (large-is d h) at so.same

pub digits-end : (all done : List ℕ) → DigitsSoFar all done [] → as_digits all ≡ Some done
digits-end all done so = so.same ∙ ap Some (append-nil done)

-- the highest of so many digits comes first
pub fours-first : (left n d : ℕ) → 0 < left → d ≡ (n / 2 ^ (4 * (left - 1))) % 16 → fours left n ≡ d ∷ fours (left - 1) n
fours-first zero n d h e = absurd (omega arith)
fours-first (suc k) n d h e =
    let z : suc k - 1 ≡ k = omega arith in
    ap (λ p. (n / p) % 16 ∷ fours k n) (sym (sixteens k)) ∙ ap (λ j. (n / 2 ^ (4 * j)) % 16 ∷ fours j n) (sym z) ∙ ap (λ x. x ∷ fours (suc k - 1) n) (sym e)

pub scalar-next : (all done : List ℕ) (left n d : ℕ) → 0 < left → d < 10 → d ≡ (n / 2 ^ (4 * (left - 1))) % 16 → DigitsSoFar all done (fours left n) → DigitsSoFar all (done ++ (48 + d) ∷ []) (fours (left - 1) n)
scalar-next all done left n d h small e so = digits-next all done (fours (left - 1) n) d small (subst (λ ds. DigitsSoFar all done ds) (fours-first left n d h e) so)

pub scalar-bad : (all done : List ℕ) (left n d : ℕ) → 0 < left → 10 ≤ d → d ≡ (n / 2 ^ (4 * (left - 1))) % 16 → DigitsSoFar all done (fours left n) → as_digits all ≡ None
scalar-bad all done left n d h large e so = digits-bad all done (fours (left - 1) n) d large (subst (λ ds. DigitsSoFar all done ds) (fours-first left n d h e) so)
