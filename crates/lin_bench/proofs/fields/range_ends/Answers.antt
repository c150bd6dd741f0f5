use Rattle.std.proofs.Common.{◌≡◌, ◌∙◌, ℕ, suc, ◌+◌, ◌-◌, ◌<◌, List, [], ◌∷◌, ◌++◌, Option, Some, None, option_map, refl, sym, ap, append_assoc, add-one, arith, drop, drop-cons, get_or, length, take}
use Rattle.std.proofs.lemmas.List.{length-drop, take_all, take_more}
use Rattle.lin_bench.specs.Fields.{after_dots, range_ends, split_here}
use Rattle.lin_bench.proofs.fields.range_ends.Goals as goal

abbrev behind : List ℕ → Option (List ℕ × List ℕ) → Option (List ℕ × List ℕ)
behind xs o = option_map (λ (ends : List ℕ × List ℕ). (xs ++ ends.0, ends.1)) o

behind-one : (xs : List ℕ) (x : ℕ) (o : Option (List ℕ × List ℕ)) → behind xs (split_here x None o) ≡ behind (xs ++ x ∷ []) o
behind-one xs x None = refl
behind-one xs x (Some ends) = ap (λ l. Some (l, ends.1)) (sym (append_assoc xs (x ∷ []) ends.0))

one-more : (xs : List ℕ) (i : ℕ) → i < length xs → after_dots (drop i xs) ≡ None → range_ends xs ≡ behind (take i xs) (range_ends (drop i xs))
    → range_ends xs ≡ behind (take (i + 1) xs) (range_ends (drop (i + 1) xs))
one-more xs i h none e =
    let x = get_or xs i 0 in
    let rest = drop (suc i) xs in
    let here : drop i xs ≡ x ∷ rest = drop-cons xs i 0 h in
    let first : after_dots (x ∷ rest) ≡ None = ap after_dots (sym here) ∙ none in
    let later : drop (i + 1) xs ≡ rest = ap (λ j. drop j xs) (add-one i) in
    e ∙ ap (λ l. behind (take i xs) (range_ends l)) here ∙ ap (λ o. behind (take i xs) (split_here x o (range_ends rest))) first
    ∙ behind-one (take i xs) x (range_ends rest) ∙ ap (λ l. behind l (range_ends rest)) (sym (take_more xs i 0 h))
    ∙ ap (λ l. behind (take (i + 1) xs) (range_ends l)) (sym later)

pub loop-i-preserved : goal.loop-i-preserved
loop-i-preserved c =
    let xs = c.args.field.now in
    let i = c.loop-i.i in
    let whole = take_all (length xs - i) (drop i xs) (omega (arith, length-drop i xs)) in
    one-more xs i (omega arith) (ap after_dots (sym whole) ∙ sym c.in_default.ensures) c.loop-i.invariant
