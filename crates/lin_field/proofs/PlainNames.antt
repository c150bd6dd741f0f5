-- Names with `_` until nothing has them.
use Rattle.std.proofs.Common.{◌≡◌, ℕ, zero, suc, true, false, cond, List, ◌++◌, refl, ap, ◌∙◌, ◌∷◌, map}
use Rattle.std.specs.Prelude.{codes}
use Rattle.lin_ldf.specs.Names.{has_name}
use Rattle.lin_field.specs.Plain.{free_from}

pub free-now : (n : ℕ) (taken : List (List ℕ)) (text : List ℕ) → has_name taken text ≡ false
    → free_from n taken text ≡ text
free-now zero taken text h = refl
free-now (suc n) taken text h =
    ap (λ b. cond b (free_from n taken (text ++ codes "_")) text) h

pub free-later : (n : ℕ) (taken : List (List ℕ)) (text : List ℕ) → has_name taken text ≡ true
    → free_from (suc n) taken text ≡ free_from n taken (text ++ codes "_")
free-later n taken text h =
    ap (λ b. cond b (free_from n taken (text ++ codes "_")) text) h

-- names that are added one list after the other
pub added : {X A : Type 0} (f : X → A) (names more : List A) (xs ys : List X) → more ≡ names ++ map f xs → xs ≡ ys
    → more ≡ names ++ map f ys
added f names more xs ys h same = h ∙ ap (λ zs. names ++ map f zs) same

pub joined : {A : Type 0} {a b c d e f ns : List A} {n : A} (s t u v w : List A)
    → a ≡ n ∷ ns → b ≡ a ++ s → c ≡ b ++ t → d ≡ c ++ u → e ≡ d ++ v → f ≡ e ++ w
    → f ≡ n ∷ (ns ++ s ++ t ++ u ++ v ++ w)
joined s t u v w pa pb pc pd pe pf =
    pf ∙ ap (λ x. x ++ w) (pe ∙ ap (λ x. x ++ v) (pd ∙ ap (λ x. x ++ u) (pc ∙ ap (λ x. x ++ t) (pb ∙ ap (λ x. x ++ s) pa))))
