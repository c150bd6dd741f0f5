-- The cases of a report.
use Rattle.std.proofs.Common.{◌≡◌, ◌∙◌, ◌<◌, ◌+◌, ℕ, suc, true, false, List, ◌∷◌, ◌++◌, Some, None, refl, sym, ap, append_assoc, flat_map, take, drop, drop-cons, get_or, length, add-one}
use Rattle.std.specs.Prelude.{codes}
use Rattle.std.proofs.lemmas.Grind.{flat_map-append}
use Rattle.std.proofs.lemmas.List.{take-append-drop}
use Rattle.lin_parts.specs.declared.parts.Parts.{Parts}
use Rattle.lin_bench.specs.Played.{is_unmet}
use Rattle.lin_bench.specs.Texts.{found_text, got_text}
use Rattle.lin_bench.specs.declared.got.Judged.{Judged}
use Rattle.lin_bench.specs.declared.got.Judged.TheVariants as judged

-- what isn't as it is expected is something else
pub found-unmet : (c : Parts) (j : Judged) → is_unmet j ≡ true → (text : List ℕ) × (found_text c j ≡ Some text)
found-unmet c (judged.Met what) h = absurd (cc)
found-unmet c (judged.Unmet what got) h = (got_text c got, refl)
found-unmet c (judged.NotDue node) h = (codes "not due", refl)
found-unmet c judged.NothingExpected h = (codes "none", refl)

pub found-met : (c : Parts) (j : Judged) → is_unmet j ≡ false → found_text c j ≡ None
found-met c (judged.Met what) h = refl
found-met c (judged.Unmet what got) h = absurd (cc)
found-met c (judged.NotDue node) h = absurd (cc)
found-met c judged.NothingExpected h = absurd (cc)

-- the texts of the items before one, its own, and those after it
texts-around : {X : Type 0} (f : X → List ℕ) (xs : List X) (i : ℕ) (x : X) → x ≡ get_or xs i x → i < length xs
    → flat_map f xs ≡ flat_map f (take i xs) ++ (f x ++ flat_map f (drop (i + 1) xs))
texts-around f xs i x is h =
    ap (flat_map f) (sym (take-append-drop i xs)) ∙ flat_map-append f (take i xs) (drop i xs)
    ∙ ap (λ l. flat_map f (take i xs) ++ flat_map f l)
    (drop-cons xs i x h ∙ ap (λ v. v ∷ drop (suc i) xs) (sym is) ∙ ap (λ n. x ∷ drop n xs) (sym (add-one i)))

-- texts that broke off in that of an item
pub broke-off : {X : Type 0} (f : X → List ℕ) (xs : List X) (i : ℕ) (x : X) (part rest end : List ℕ) → x ≡ get_or xs i x → i < length xs
    → f x ≡ part ++ rest
    → flat_map f xs ++ end ≡ (flat_map f (take i xs) ++ part) ++ (rest ++ (flat_map f (drop (i + 1) xs) ++ end))
broke-off f xs i x part rest end is h whole =
    let before = flat_map f (take i xs) in
    let after = flat_map f (drop (i + 1) xs) in
    ap (λ l. l ++ end) (texts-around f xs i x is h) ∙ append_assoc before (f x ++ after) end
    ∙ ap (λ l. before ++ ((l ++ after) ++ end)) whole
    ∙ ap (λ l. before ++ l) (append_assoc (part ++ rest) after end ∙ append_assoc part rest (after ++ end))
    ∙ sym (append_assoc before part (rest ++ (after ++ end)))
