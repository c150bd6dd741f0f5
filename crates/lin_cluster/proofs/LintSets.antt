-- Sets of names with one more.
use Rattle.std.proofs.Common.{◌≡◌, ℕ, ◌+◌, ◌<◌, Bool, true, false, List, length, take, get_or, Option, Some, None, ap, sym, refl, ◌∙◌}
use Rattle.std.specs.Prelude.{◌||◌, is_some, if◌then◌else◌}
use Rattle.std.specs.List.{list_any}
use Rattle.std.proofs.lemmas.List.Folds.{list_any_more}
use Rattle.std.specs.Option.{option_or}
use Rattle.std.specs.Str.{bytes_eq}

some_or : {A : Type 0} (v : A) (o : Option A) (b : Bool) → is_some (option_or o (if b then Some v else None)) ≡ (is_some o || b)
some_or v None true = refl
some_or v None false = refl
some_or v (Some x) b = refl

pub some_added : {A : Type 0} (v : A) (bs : List ℕ) (old new : List ℕ → Option A) → ((q : List ℕ) → new q ≡ option_or (old q) (if bytes_eq bs q then Some v else None)) → (q : List ℕ) → is_some (new q) ≡ (is_some (old q) || bytes_eq bs q)
some_added v bs old new is q = ap is_some (is q) ∙ some_or v (old q) (bytes_eq bs q)

or_assoc : (a b c : Bool) → ((a || b) || c) ≡ (a || (b || c))
or_assoc true b c = refl
or_assoc false b c = refl

-- a step of a loop that adds names of each item
pub held_more : {A : Type 0} (p : A → Bool) (xs : List A) (i : ℕ) (x : A) (before old new : Bool) → i < length xs → x ≡ get_or xs i x → old ≡ (before || list_any p (take i xs)) → new ≡ (old || p x) → new ≡ (before || list_any p (take (i + 1) xs))
held_more p xs i x before old new h is so here =
    here ∙ ap (λ b. b || p x) so ∙ or_assoc before (list_any p (take i xs)) (p x)
    ∙ ap (λ b. before || b) (ap (λ y. list_any p (take i xs) || p y) is ∙ sym (list_any_more p xs i x h))

-- names that are added to none, and more to these
pub two_added : (none one two first second : Bool) → none ≡ false → one ≡ (none || first) → two ≡ (one || second) → two ≡ (first || second)
two_added none one two first second empty is more = more ∙ ap (λ b. b || second) (is ∙ ap (λ b. b || first) empty)
