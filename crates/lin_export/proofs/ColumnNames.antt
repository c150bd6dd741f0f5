-- The name of a column, between quotes where it needs them.
use Rattle.std.proofs.Common.{◌≡◌, ◌++◌, ◌∷◌, ◌==◌, [], ℕ, List, refl, ap, ◌∙◌, append_assoc, codes, flat_map}
use Rattle.std.specs.Prelude.{◌||◌, Bool, true, false, if◌then◌else◌}
use Rattle.std.proofs.lemmas.List.Folds.{list_any-append}
use Rattle.lin_export.specs.Csv.{doubled_quote, needs_quotes, text_cell}
use Rattle.lin_export.proofs.Rows.{flat-append}

or-false : (b : Bool) → (b || false) ≡ b
or-false true = refl
or-false false = refl

pub if-true : {X : Type 0} (b : Bool) (x y : X) → b ≡ true → x ≡ (if b then x else y)
if-true true x y e = refl
if-true false x y e = cc

pub if-false : {X : Type 0} (b : Bool) (x y : X) → b ≡ false → y ≡ (if b then x else y)
if-false true x y e = cc
if-false false x y e = refl

pub quoted-cell : (text : List ℕ) → needs_quotes text ≡ true → 34 ∷ (flat_map doubled_quote text ++ 34 ∷ []) ≡ text_cell text
quoted-cell text e = if-true (needs_quotes text) (34 ∷ (flat_map doubled_quote text ++ 34 ∷ [])) text e

pub plain-cell : (text : List ℕ) → needs_quotes text ≡ false → text ≡ text_cell text
plain-cell text e = if-false (needs_quotes text) (34 ∷ (flat_map doubled_quote text ++ 34 ∷ [])) text e

-- words behind a name that need no quotes
pub tail-needs : (name tail : List ℕ) → needs_quotes tail ≡ false → needs_quotes (name ++ tail) ≡ needs_quotes name
tail-needs name tail e = list_any-append (λ b. b == 44 || b == 34) name tail ∙ ap (λ b. needs_quotes name || b) e ∙ or-false (needs_quotes name)

pub unit-needs : (name unit : List ℕ) → needs_quotes (name ++ (codes " [" ++ (unit ++ codes "]"))) ≡ (needs_quotes name || needs_quotes unit)
unit-needs name unit =
    list_any-append (λ b. b == 44 || b == 34) name (codes " [" ++ (unit ++ codes "]"))
    ∙ ap (λ b. needs_quotes name || b) (list_any-append (λ b. b == 44 || b == 34) (codes " [") (unit ++ codes "]") ∙ tail-needs unit (codes "]") refl)

-- what stands between the quotes
pub tail-doubled : (name tail : List ℕ) → flat_map doubled_quote tail ≡ tail → flat_map doubled_quote (name ++ tail) ++ 34 ∷ [] ≡ flat_map doubled_quote name ++ (tail ++ 34 ∷ [])
tail-doubled name tail e = ap (λ l. l ++ 34 ∷ []) (flat-append doubled_quote name tail ∙ ap (λ l. flat_map doubled_quote name ++ l) e) ∙ append_assoc (flat_map doubled_quote name) tail (34 ∷ [])

pub unit-doubled : (name unit : List ℕ)
    → flat_map doubled_quote (name ++ (codes " [" ++ (unit ++ codes "]"))) ++ 34 ∷ [] ≡ flat_map doubled_quote name ++ (codes " [" ++ (flat_map doubled_quote unit ++ (codes "]" ++ 34 ∷ [])))
unit-doubled name unit =
    ap (λ l. l ++ 34 ∷ [])
    (flat-append doubled_quote name (codes " [" ++ (unit ++ codes "]"))
    ∙ ap (λ l. flat_map doubled_quote name ++ l) (flat-append doubled_quote (codes " [") (unit ++ codes "]") ∙ ap (λ l. codes " [" ++ l) (flat-append doubled_quote unit (codes "]"))))
    ∙ append_assoc (flat_map doubled_quote name) (codes " [" ++ (flat_map doubled_quote unit ++ codes "]")) (34 ∷ [])
    ∙ ap (λ l. flat_map doubled_quote name ++ (codes " [" ++ l)) (append_assoc (flat_map doubled_quote unit) (codes "]") (34 ∷ []))
