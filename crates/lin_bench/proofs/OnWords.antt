-- Lines of steps aren't those of `on` whose form has words.
use Rattle.std.proofs.Common.{◌≡◌, ℕ, zero, suc, List, [], ◌∷◌, true, false, drop, refl, take, Option, Some, None}
use Rattle.std.specs.Prelude.{codes, option_and_then, position}
use Rattle.std.specs.Str.{bytes_eq}
use Rattle.lin_log.specs.Said.{is_port}
use Rattle.lin_bench.specs.Words.{form_end, is_on_signal, marked_form, on_line_at, worded_on}
use Rattle.lin_bench.proofs.Wordless.{other-word}

not-on : (word : List ℕ) (ys : List (List ℕ)) → bytes_eq word (codes "on") ≡ false → is_on_signal (word ∷ ys) ≡ false
not-on word [] h = refl
not-on word (a ∷ []) h = refl
not-on word (a ∷ b ∷ []) h = rw h refl
not-on word (a ∷ b ∷ d ∷ []) h = rw h refl
not-on word (a ∷ b ∷ d ∷ e ∷ ys) h = refl

not-first : (word : List ℕ) (fs : List (List ℕ)) (n : ℕ) → bytes_eq word (codes "on") ≡ false → is_on_signal (take n (word ∷ fs)) ≡ false
not-first word fs zero h = refl
not-first word fs (suc n) h = not-on word (take n fs) h

not-within : (word : List ℕ) (fs : List (List ℕ)) (m n : ℕ) → bytes_eq word (codes "on") ≡ false → is_on_signal (take n (take m (word ∷ fs))) ≡ false
not-within word fs zero zero h = refl
not-within word fs zero (suc n) h = refl
not-within word fs (suc m) n h = not-first word (take m fs) n h

no-line : (form behind : List (List ℕ)) (at : Option ℕ) → ((n : ℕ) → is_on_signal (take n form) ≡ false) → option_and_then (on_line_at form behind) at ≡ None
no-line form behind None other = refl
no-line form behind (Some zero) other = refl
no-line form behind (Some (suc n)) other = rw (other n) refl

no-form : (fs : List (List ℕ)) (end : Option ℕ) → ((m n : ℕ) → is_on_signal (take n (take m fs)) ≡ false)
    → option_and_then (λ at. marked_form (take at fs) (drop at fs)) end ≡ None
no-form fs None other = refl
no-form fs (Some m) other = no-line (take m fs) (drop m fs) (position (λ f. bytes_eq f (codes "=")) (take m fs)) (other m)

pub not-worded-on : (word : List ℕ) (fs : List (List ℕ)) → is_port word ≡ true → worded_on (word ∷ fs) ≡ None
unfolding worded_on
not-worded-on word fs i =
    let h = other-word word (codes "on") is_port i refl in no-form (word ∷ fs) (form_end (word ∷ fs)) (λ m n. not-within word fs m n h)

pub nothing-worded-on : worded_on [] ≡ None
unfolding worded_on
nothing-worded-on = refl
