-- Decimals need neither quotes in a table nor escapes in JSON, and have no LF.
use Rattle.std.proofs.Common.{◌≡◌, ◌≤◌, ◌<◌, ◌+◌, ◌/◌, ◌%◌, ◌^◌, ◌==◌, ℕ, zero, suc, List, [], ◌∷◌, ◌++◌, refl, ap, ◌∙◌, add-one, arith}
use Rattle.std.specs.Prelude.{◌||◌, nat_lt, All, Bool, true, false, ⊤, if◌then◌else◌}
use Rattle.std.specs.Fmt.{decimal}
use Rattle.std.proofs.Math.Nat.{div-le_self}
use Rattle.std.proofs.lemmas.Bool.Decides.{nat_tests}
use Rattle.std.proofs.lemmas.Fmt.{decimal_by_steps_wide}
use Rattle.std.proofs.lemmas.List.Folds.{list_any_none}
use Rattle.lin_core.proofs.slots.ClusterFrames.{all-cons}
use Rattle.lin_log.specs.CallerTexts.{seen_text}
use Rattle.lin_values.specs.Shown.{decimal_shown, fraction, last_digits, sign}
use Rattle.lin_values.specs.Value.{IsExact}
use Rattle.lin_values.specs.declared.decimals.Decimal.{Decimal}
use Rattle.lin_values.proofs.Powers.{first-digit, rest-below}
use Rattle.lin_export.specs.Csv.{needs_quotes, text_cell}
use Rattle.lin_export.specs.Json.{escaped_bytes, escaped_byte}

-- a digit, a point or a minus
abbrev IsPlain : ℕ → Type 0
IsPlain b = (45 ≤ b) × (b ≤ 57)

abbrev pub ArePlain : List ℕ → Type 0
ArePlain [] = ⊤
ArePlain (b ∷ bs) = IsPlain b × ArePlain bs

both-plain : (xs ys : List ℕ) → ArePlain xs → ArePlain ys → ArePlain (xs ++ ys)
both-plain [] ys h k = k
both-plain (x ∷ xs) ys h k = (h.0, both-plain xs ys h.1 k)

pub decimal-plain : (n : ℕ) → n < 10 ^ 64 → ArePlain (decimal n)
decimal-plain =
    decimal_by_steps_wide (λ n ds. ArePlain ds) (λ n small. ((omega arith, omega arith), tt)) (λ n ds large h. both-plain ds ((48 + n % 10) ∷ []) h ((omega arith, omega arith), tt))

digits-plain : (k n : ℕ) → n < 10 ^ k → ArePlain (last_digits k n)
digits-plain zero n h = tt
digits-plain (suc k) n h = let first = first-digit k n (rw add-one h) in ((omega arith, omega arith), digits-plain k (n % 10 ^ k) (rest-below k n))

fraction-plain : (k n : ℕ) → n < 10 ^ k → ArePlain (fraction k n)
fraction-plain zero n h = tt
fraction-plain (suc k) n h = ((omega arith, omega arith), digits-plain (suc k) n h)

sign-plain : (negative : Bool) → ArePlain (sign negative)
sign-plain true = ((omega arith, omega arith), tt)
sign-plain false = tt

pub shown-plain : (d : Decimal) → IsExact d → ArePlain (decimal_shown d)
shown-plain d exact =
    let digits = exact.1 in
    let whole = div-le_self d.digits (10 ^ d.places) in
    both-plain (sign d.negative) (decimal (d.digits / 10 ^ d.places) ++ fraction d.places (d.digits % 10 ^ d.places)) (sign-plain d.negative)
    (both-plain (decimal (d.digits / 10 ^ d.places)) (fraction d.places (d.digits % 10 ^ d.places)) (decimal-plain (d.digits / 10 ^ d.places) (omega arith))
    (fraction-plain d.places (d.digits % 10 ^ d.places) (rest-below d.places d.digits)))

-- == they stand as they are
if-false : {X : Type 0} (b : Bool) (x y : X) → b ≡ false → (if b then x else y) ≡ y
if-false true x y e = cc
if-false false x y e = refl

not-marked : (b : ℕ) (t : Bool) → IsPlain b → (b == 34 || b == 92) ≡ t → t ≡ false
not-marked b true h e = absurd (grind (arith, nat_tests, e, h))
not-marked b false h e = refl

not-control : (b : ℕ) (t : Bool) → IsPlain b → nat_lt b 32 ≡ t → t ≡ false
not-control b true h e = absurd (grind (arith, nat_tests, e, h))
not-control b false h e = refl

byte-plain : (b : ℕ) → IsPlain b → escaped_byte b ≡ b ∷ []
byte-plain b h = if-false (b == 34 || b == 92) _ _ (not-marked b (b == 34 || b == 92) h refl) ∙ if-false (nat_lt b 32) _ _ (not-control b (nat_lt b 32) h refl)

pub escaped-plain : (text : List ℕ) → ArePlain text → escaped_bytes text ≡ text
escaped-plain [] h = refl
escaped-plain (b ∷ bs) h = ap (λ l. l ++ escaped_bytes bs) (byte-plain b h.0) ∙ ap (λ l. b ∷ l) (escaped-plain bs h.1)

not-quoted : (b : ℕ) (t : Bool) → IsPlain b → (b == 44 || b == 34) ≡ t → t ≡ false
not-quoted b true h e = absurd (grind (arith, nat_tests, e, h))
not-quoted b false h e = refl

none-quoted : (text : List ℕ) → ArePlain text → All (λ b. (b == 44 || b == 34) ≡ false) text
none-quoted [] h = λ k d l. absurd (omega arith)
none-quoted (b ∷ bs) h = all-cons (λ x. (x == 44 || x == 34) ≡ false) b bs (not-quoted b (b == 44 || b == 34) h.0 refl) (none-quoted bs h.1)

pub cell-plain : (text : List ℕ) → ArePlain text → text_cell text ≡ text
cell-plain text h = if-false (needs_quotes text) _ text (list_any_none (λ b. b == 44 || b == 34) text (none-quoted text h))

not-lf : (b : ℕ) (t : Bool) → IsPlain b → (b == 10) ≡ t → t ≡ false
not-lf b true h e = absurd (grind (arith, nat_tests, e, h))
not-lf b false h e = refl

pub seen-plain : (text : List ℕ) → ArePlain text → seen_text text ≡ text
seen-plain [] h = refl
seen-plain (b ∷ bs) h = ap (λ x. x ∷ seen_text bs) (if-false (b == 10) 63 b (not-lf b (b == 10) h.0 refl)) ∙ ap (λ l. b ∷ l) (seen-plain bs h.1)
