-- Maps from names to what they name first.
use Rattle.std.proofs.Common.{◌≡◌, ℕ, ◌+◌, ◌<◌, Bool, true, false, cond, List, length, take, get_or, Option, Some, None, sym, ap, subst, refl, ◌∙◌}
use Rattle.std.specs.Prelude.{if◌then◌else◌, ◌||◌, is_some}
use Rattle.std.specs.Str.{bytes_eq}
use Rattle.std.specs.List.{list_any}
use Rattle.std.specs.Map.{update}
use Rattle.std.proofs.lemmas.Slice.Eq.{bytes_eq-Decides}
use Rattle.std.proofs.lemmas.List.Folds.{list_any_more}
use Rattle.std.specs.Option.{option_or}

or_none : {A : Type 0} (o : Option A) → o ≡ option_or o None
or_none (Some x) = refl
or_none None = refl

added_by : {A : Type 0} (b : Bool) (n : A) (here new : Option A) → new ≡ cond b (Some n) here → (b ≡ true → here ≡ None) → new ≡ option_or here (if b then Some n else None)
added_by true n here new is none = is ∙ sym (ap (λ o. option_or o (Some n)) (none refl))
added_by false n here new is none = is ∙ or_none here

pub added : {A : Type 0} (bs : List ℕ) (n : A) (old new : List ℕ → Option A) → ((cs : List ℕ) → new cs ≡ update bytes_eq old bs (Some n) cs) → ((q : List ℕ) → bytes_eq bs q ≡ true → old q ≡ None) → (q : List ℕ) → new q ≡ option_or (old q) (if bytes_eq bs q then Some n else None)
added bs n old new is none q = added_by (bytes_eq bs q) n (old q) (new q) (is q) (none q)

none_left : {A : Type 0} (o : Option A) → false ≡ is_some o → o ≡ None
none_left (Some x) h = absurd (cc)
none_left None h = refl

pub none_there : {A : Type 0} (bs : List ℕ) (old : List ℕ → Option A) → false ≡ is_some (old bs) → (q : List ℕ) → bytes_eq bs q ≡ true → old q ≡ None
none_there bs old none q same = subst (λ (cs : List ℕ). old cs ≡ None) ((bytes_eq-Decides bs q).0 same) (none_left (old bs) none)

-- a set with one more item
pub seen_more : {A : Type 0} (p : A → Bool) (xs : List A) (i : ℕ) (d : A) (b old new : Bool) → i < length xs → b ≡ p (get_or xs i d) → old ≡ list_any p (take i xs) → new ≡ (old || b) → new ≡ list_any p (take (i + 1) xs)
seen_more p xs i d b old new h is so here = here ∙ ap (λ c. c || b) so ∙ ap (λ c. list_any p (take i xs) || c) is ∙ sym (list_any_more p xs i d h)

pub or_by : (b old : Bool) → cond b true old ≡ (old || b)
or_by true true = refl
or_by true false = refl
or_by false true = refl
or_by false false = refl
