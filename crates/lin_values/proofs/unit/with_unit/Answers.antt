use Rattle.std.proofs.Common.{◌≡◌, ◌++◌, ◌∷◌, [], ℕ, List, Bool, true, false, ◌&&◌, Bor, refl, sym, ◌∙◌}
use Rattle.std.proofs.lemmas.List.Folds.{list_all-append}
use Rattle.std.specs.List.{list_all}
use Rattle.std.specs.Str.{bytes_eq}
use Rattle.lin_cluster.proofs.NamesFound.{same-text, text-same}
use Rattle.lin_values.specs.Units.{IsUnitOf}
use Rattle.lin_values.specs.declared.unit.Unit.TheVariants.{One, Several}
use Rattle.lin_values.proofs.unit.with_unit.Goals as goal

and-one : (a b : Bool) → a ≡ true → b ≡ true → a && (b && true) ≡ true
and-one true true e f = refl
and-one true false e f = f
and-one false b e f = e

and-other : (a b : Bool) → b ≡ false → a && (b && true) ≡ false
and-other true true e = e
and-other true false e = refl
and-other false b e = refl

and-none : (a b : Bool) → a ≡ false → a && b ≡ false
and-none true b e = cc
and-none false b e = refl

same-next : (other : Bor (List ℕ)) (x : List ℕ) → bytes_eq other.now x ≡ true → (us : List (List ℕ)) → IsUnitOf (One other) us → IsUnitOf (One other) (us ++ x ∷ [])
same-next other x e [] h = elim h [ ]
same-next other x e (v ∷ vs) h =
    let same : x ≡ v = sym (same-text other.now x e) ∙ sym h.0 in
    (h.0, list_all-append (λ w. bytes_eq w v) vs (x ∷ []) ∙ and-one (list_all (λ w. bytes_eq w v) vs) (bytes_eq x v) h.1 (text-same x v same))

differ : (b : Bool) (x v : List ℕ) → bytes_eq x v ≡ b → (x ≡ v → ⊥) → bytes_eq x v ≡ false
differ true x v e n = absurd (n (same-text x v e))
differ false x v e n = e

other-next : (other : Bor (List ℕ)) (x : List ℕ) → bytes_eq other.now x ≡ false → (us : List (List ℕ)) → IsUnitOf (One other) us → IsUnitOf Several (us ++ x ∷ [])
other-next other x e [] h = elim h [ ]
other-next other x e (v ∷ vs) h =
    let apart : x ≡ v → ⊥ = λ s. let t : bytes_eq other.now x ≡ true = text-same other.now x (sym h.0 ∙ sym s) in cc in
    list_all-append (λ w. bytes_eq w v) vs (x ∷ []) ∙ and-other (list_all (λ w. bytes_eq w v) vs) (bytes_eq x v) (differ (bytes_eq x v) x v refl apart)

several-next : (x : List ℕ) (us : List (List ℕ)) → IsUnitOf Several us → IsUnitOf Several (us ++ x ∷ [])
several-next x [] h = elim h [ ]
several-next x (v ∷ vs) h = list_all-append (λ w. bytes_eq w v) vs (x ∷ []) ∙ and-none (list_all (λ w. bytes_eq w v) vs) (bytes_eq x v && true) h

pub returns-then-eq : goal.returns-then-eq
returns-then-eq c = rw c.in-One.is (same-next c.in-One.other c.args.unit.now (sym c.if-eq.ensures))

pub returns-else-eq : goal.returns-else-eq
returns-else-eq c = rw c.in-One.is (other-next c.in-One.other c.args.unit.now (sym c.if-eq.ensures))

pub returns-in-Several : goal.returns-in-Several
returns-in-Several c = rw c.in-Several.is (several-next c.args.unit.now)
