-- The ends of lines of rules: what their last fields say.
use Rattle.std.proofs.Common.{◌≡◌, ◌∙◌, ℕ, true, false, cond, List, [], ◌∷◌, ◌++◌, Option, None, Result, Err, refl, ap, arith, length}
use Rattle.std.specs.Prelude.{codes, nat_le}
use Rattle.std.specs.Str.{bytes_eq}
use Rattle.std.proofs.lemmas.Bool.Decides.{nat_tests}
use Rattle.lin_parts.specs.declared.parts.Parts.{Parts}
use Rattle.lin_log.specs.Said.{no_fields}
use Rattle.lin_bench.specs.RuleLines.{answers_of, ends_rule, silent_or_end, when_end, when_of}
use Rattle.lin_bench.specs.declared.reason.Reason.{Reason}
use Rattle.lin_bench.specs.declared.reason.Reason.TheVariants.{WhenForm}
use Rattle.lin_bench.specs.declared.rules.Rule.{Rule}
use Rattle.lin_bench.proofs.FieldParts.{before-is, last-is, longer}

abbrev by-end : Parts → List ℕ → Option (List ℕ) → Option (List ℕ) → List (List ℕ) → List ℕ → Result Rule Reason
by-end c n s next before last =
    cond (bytes_eq last (codes "silent")) (when_of c n s before (answers_of None) next) (cond (ends_rule last next) (when_end c n s before) (Err WhenForm))

ended-by : (c : Parts) (n : List ℕ) (s next : Option (List ℕ)) (fs before : List (List ℕ)) (last : List ℕ) → fs ≡ before ++ last ∷ [] → no_fields before ≡ false
    → silent_or_end c n s fs next ≡ by-end c n s next before last
ended-by c n s next fs [] last e some = absurd (cc)
ended-by c n s next fs (f ∷ before) last e some =
    let long : nat_le (length ((f ∷ before) ++ last ∷ [])) 1 ≡ false = grind (arith, nat_tests, longer ((f ∷ before) ++ last ∷ []) (f ∷ before) last refl) in
    ap (λ l. silent_or_end c n s l next) e ∙ rw (long, last-is (f ∷ before) last, before-is (f ∷ before) last) refl

pub silent-by : (c : Parts) (n : List ℕ) (s next : Option (List ℕ)) (fs before : List (List ℕ)) (last : List ℕ) → fs ≡ before ++ last ∷ [] → no_fields before ≡ false
    → bytes_eq last (codes "silent") ≡ true → silent_or_end c n s fs next ≡ when_of c n s before (answers_of None) next
silent-by c n s next fs before last e some is = ended-by c n s next fs before last e some ∙ rw is refl

pub off-by : (c : Parts) (n : List ℕ) (s next : Option (List ℕ)) (fs before : List (List ℕ)) (last : List ℕ) → fs ≡ before ++ last ∷ [] → no_fields before ≡ false
    → bytes_eq last (codes "silent") ≡ false → ends_rule last next ≡ true → silent_or_end c n s fs next ≡ when_end c n s before
off-by c n s next fs before last e some is off = ended-by c n s next fs before last e some ∙ rw (is, off) refl

pub neither-by : (c : Parts) (n : List ℕ) (s next : Option (List ℕ)) (fs before : List (List ℕ)) (last : List ℕ) → fs ≡ before ++ last ∷ [] → no_fields before ≡ false
    → bytes_eq last (codes "silent") ≡ false → ends_rule last next ≡ false → silent_or_end c n s fs next ≡ Err WhenForm
neither-by c n s next fs before last e some is off = ended-by c n s next fs before last e some ∙ rw (is, off) refl

pub too-short : (c : Parts) (n : List ℕ) (s next : Option (List ℕ)) (fs before : List (List ℕ)) (last : List ℕ) → fs ≡ before ++ last ∷ [] → no_fields before ≡ true
    → silent_or_end c n s fs next ≡ Err WhenForm
too-short c n s next fs [] last e none = ap (λ l. silent_or_end c n s l next) e
too-short c n s next fs (f ∷ before) last e none = absurd (cc)
