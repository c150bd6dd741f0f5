-- Lines of numbered things, one more at a time.
use Rattle.std.proofs.Common.{◌≡◌, ℕ, zero, suc, ◌+◌, ◌<◌, List, [], ◌∷◌, ◌++◌, length, take, get_or, sym, ap, ◌∙◌, append_assoc, append-nil, add-one, arith}
use Rattle.std.proofs.Common.{Option}
use Rattle.lin_text.specs.declared.buffered.TextWriter.{TextWriter}
use Rattle.lin_text.specs.Written.{Grows}
use Rattle.lin_text.proofs.Growing.{grows-more, same-growth}
use Rattle.lin_export.specs.Listing.{numbered_lines}

numbered-next_suc : {X : Type 0} (f : ℕ → X → List ℕ) (n : ℕ) (xs : List X) (i : ℕ) (d : X) → i < length xs
    → numbered_lines f n (take (suc i) xs) ≡ numbered_lines f n (take i xs) ++ f (n + i) (get_or xs i d)
numbered-next_suc f n [] i d h = absurd (omega arith)
numbered-next_suc f n (x ∷ xs) zero d h =
    let same : n ≡ n + 0 = omega arith in
    append-nil (f n x) ∙ ap (λ k. f k x) same
numbered-next_suc f n (x ∷ xs) (suc i) d h =
    ap (λ l. f n x ++ l) (numbered-next_suc f (n + 1) xs i d (omega arith))
    ∙ sym (append_assoc (f n x) (numbered_lines f (n + 1) (take i xs)) (f (n + 1 + i) (get_or xs i d)))
    ∙ ap (λ k. (f n x ++ numbered_lines f (n + 1) (take i xs)) ++ f k (get_or xs i d)) (omega arith)

numbered-next : {X : Type 0} (f : ℕ → X → List ℕ) (xs : List X) (i : ℕ) (d : X) → i < length xs
    → numbered_lines f 0 (take (i + 1) xs) ≡ numbered_lines f 0 (take i xs) ++ f i (get_or xs i d)
numbered-next f xs i d h =
    let same : 0 + i ≡ i = omega arith in
    rw (add-one) (numbered-next_suc f 0 xs i d h ∙ ap (λ k. numbered_lines f 0 (take i xs) ++ f k (get_or xs i d)) same)

-- one line more
pub lines-next : {W X : Type 0} {contents : W → Option (List ℕ)} {x y z : TextWriter W} (f : ℕ → X → List ℕ) (xs : List X) (i : ℕ) (d : X) → i < length xs
    → Grows contents x y (numbered_lines f 0 (take i xs)) → Grows contents y z (f i (get_or xs i d)) → Grows contents x z (numbered_lines f 0 (take (i + 1) xs))
lines-next f xs i d lt h k = same-growth (sym (numbered-next f xs i d lt)) (grows-more h k)
