-- What is written adds up.
use Rattle.std.proofs.Common.{◌≡◌, ℕ, List, [], ◌++◌, Option, Some, None, sym, ap, ◌∙◌, append_assoc, append-nil, take, drop, length, ◌-◌}
use Rattle.std.proofs.lemmas.List.{take-append-drop}
use Rattle.std.proofs.lemmas.Grind.{common_steps}
use Rattle.std.proofs.Common.{arith}
use Rattle.std.specs.Io.KnownBytes.{Appends}

pub appends-nothing : (a : Option (List ℕ)) → Appends a a []
appends-nothing None = tt
appends-nothing (Some xs) = sym (append-nil xs)

pub appends-more : (a b c : Option (List ℕ)) (p q : List ℕ) → Appends a b p → Appends b c q → Appends a c (p ++ q)
appends-more None b c p q h k = tt
appends-more (Some xs) None c p q h k = absurd h
appends-more (Some xs) (Some ys) None p q h k = k
appends-more (Some xs) (Some ys) (Some zs) p q h k = k ∙ ap (λ l. l ++ q) h ∙ append_assoc xs p q

slice-rest : (xs : List ℕ) (n : ℕ) → take (length xs - n) (drop n xs) ≡ drop n xs
slice-rest xs n = grind (arith, common_steps)

pub written-so_far : (p xs bytes : List ℕ) (n : ℕ) → bytes ≡ p ++ xs → bytes ≡ p ++ take n xs ++ take (length xs - n) (drop n xs)
written-so_far p xs bytes n e =
    e ∙ ap (λ l. p ++ l) (sym (take-append-drop n xs)) ∙ sym (append_assoc p (take n xs) (drop n xs)) ∙ ap (λ l. p ++ take n xs ++ l) (sym (slice-rest xs n))
