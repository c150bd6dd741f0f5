-- Steps that are repeated while a test holds, as a loop does. Each makes a measure smaller.
use Rattle.std.proofs.Common.{◌≡◌, ◌∙◌, ℕ, zero, suc, ◌≤◌, ◌<◌, Bool, true, false, cond, refl, sym, arith}
use Rattle.lin_sections.specs.Passed.{steps_while}

module _ {X : Type 0} (measure : X → ℕ) (test : X → Bool) (step : X → X) (falls : (x : X) → test x ≡ true → measure (step x) < measure x) where
  same-steps : (n m : ℕ) (x : X) → measure x ≤ n → measure x ≤ m → steps_while n test step x ≡ steps_while m test step x
  same-steps zero zero x p q = refl
  same-steps zero (suc m) x p q =
      elim (test x) as (λ b. (test x ≡ b) → x ≡ cond b (steps_while m test step (step x)) x) [
        | true ↦ λ e. let lt : measure (step x) < measure x = falls x e in absurd (omega arith)
        | false ↦ λ e. refl
      ] refl
  same-steps (suc n) zero x p q =
      elim (test x) as (λ b. (test x ≡ b) → cond b (steps_while n test step (step x)) x ≡ x) [
        | true ↦ λ e. let lt : measure (step x) < measure x = falls x e in absurd (omega arith)
        | false ↦ λ e. refl
      ] refl
  same-steps (suc n) (suc m) x p q =
      elim (test x) as (λ b. (test x ≡ b) → cond b (steps_while n test step (step x)) x ≡ cond b (steps_while m test step (step x)) x) [
        | true ↦ λ e. let lt : measure (step x) < measure x = falls x e in same-steps n m (step x) (omega arith) (omega arith)
        | false ↦ λ e. refl
      ] refl

  unrolled : (n : ℕ) (x : X) → test x ≡ true → measure x ≤ n → steps_while n test step x ≡ steps_while (measure (step x)) test step (step x)
  unrolled zero x e p = let lt : measure (step x) < measure x = falls x e in absurd (omega arith)
  unrolled (suc n) x e p =
      let lt : measure (step x) < measure x = falls x e in
      rw e (same-steps n (measure (step x)) (step x) (omega arith) (omega arith))

  pub one-step : (x y total : X) → test x ≡ true → y ≡ step x → steps_while (measure x) test step x ≡ total → steps_while (measure y) test step y ≡ total
  one-step x y total e made so_far = rw made (sym (unrolled (measure x) x e (omega arith)) ∙ so_far)

  all-done : (n : ℕ) (x : X) → test x ≡ false → steps_while n test step x ≡ x
  all-done zero x e = refl
  all-done (suc n) x e = rw e refl

  pub no-step : (x total : X) → test x ≡ false → steps_while (measure x) test step x ≡ total → total ≡ x
  no-step x total e so_far = sym so_far ∙ all-done (measure x) x e

  pub steps-keep : (n : ℕ) (x : X) → measure (steps_while n test step x) ≤ measure x
  steps-keep zero x = omega arith
  steps-keep (suc n) x =
      elim (test x) as (λ b. (test x ≡ b) → measure (cond b (steps_while n test step (step x)) x) ≤ measure x) [
        | true ↦ λ e.
            let lt : measure (step x) < measure x = falls x e in
            let more : measure (steps_while n test step (step x)) ≤ measure (step x) = steps-keep n (step x) in omega arith
        | false ↦ λ e. omega arith
      ] refl

-- what each step keeps
pub steps-hold : {X : Type 0} (P : X → Type 0) (test : X → Bool) (step : X → X) → ((x : X) → P x → P (step x)) → (n : ℕ) (x : X) → P x → P (steps_while n test step x)
steps-hold P test step keeps zero x holds = holds
steps-hold P test step keeps (suc n) x holds =
    elim (test x) as (λ b. P (cond b (steps_while n test step (step x)) x)) [
      | true ↦ steps-hold P test step keeps n (step x) (keeps x holds)
      | false ↦ holds
    ]
