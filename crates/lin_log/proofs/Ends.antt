-- What ends with nothing, words that end a line, and one word more.
use Rattle.std.proofs.Common.{◌≡◌, ◌∙◌, ◌+◌, ◌<◌, ℕ, List, [], ◌∷◌, ◌++◌, Option, sym, ap, append-nil, flat_map, get_or, length, map, take}
use Rattle.std.proofs.lemmas.Grind.{flat_map-append}
use Rattle.std.proofs.lemmas.List.{map-append, take_more}
use Rattle.lin_text.specs.Written.{Grows}
use Rattle.lin_text.specs.declared.buffered.TextWriter.{TextWriter}
use Rattle.lin_text.proofs.Growing.{grows-more, same-growth}
use Rattle.lin_log.specs.Words.{line_tail, spaced_word}
use Rattle.lin_log.proofs.Quiet.{line-end}

-- a text, and nothing after it
pub grows-last : {W : Type 0} {contents : W → Option (List ℕ)} {x y : TextWriter W} {t : List ℕ} → Grows contents x y t → Grows contents x y (t ++ [])
grows-last {t = t} h = same-growth (sym (append-nil t)) h

-- words, and the end of their line
pub ended : (ws : List (List ℕ)) → flat_map spaced_word ws ++ 10 ∷ [] ≡ line_tail ws
ended ws = sym (line-end ws []) ∙ append-nil (line_tail ws)

pub grows-ended : {W : Type 0} {contents : W → Option (List ℕ)} {x y z : TextWriter W} (ws : List (List ℕ))
    → Grows contents x y (flat_map spaced_word ws) → Grows contents y z (10 ∷ []) → Grows contents x z (line_tail ws)
grows-ended ws h k = same-growth (ended ws) (grows-more h k)

-- the text of one item more
pub grows-copied : {W X : Type 0} {contents : W → Option (List ℕ)} {x y z : TextWriter W} (f : X → List ℕ) (xs : List X) (i : ℕ) (d : X) → i < length xs
    → Grows contents x y (flat_map f (take i xs)) → Grows contents y z (f (get_or xs i d)) → Grows contents x z (flat_map f (take (i + 1) xs))
grows-copied f xs i d lt h k =
    same-growth
    (sym (ap (flat_map f) (take_more xs i d lt)
    ∙ flat_map-append f (take i xs) (get_or xs i d ∷ [])
    ∙ ap (λ l. flat_map f (take i xs) ++ l) (append-nil (f (get_or xs i d)))))
    (grows-more h k)

pub mapped-more : {X Y : Type 0} (f : Y → List ℕ) (g : X → Y) (xs : List X) (i : ℕ) (d : X) → i < length xs
    → flat_map f (map g (take (i + 1) xs)) ≡ flat_map f (map g (take i xs)) ++ f (g (get_or xs i d))
mapped-more f g xs i d h =
    ap (λ l. flat_map f (map g l)) (take_more xs i d h) ∙ ap (flat_map f) (map-append g (take i xs) (get_or xs i d ∷ []))
    ∙ flat_map-append f (map g (take i xs)) (g (get_or xs i d) ∷ []) ∙ ap (λ l. flat_map f (map g (take i xs)) ++ l) (append-nil (f (g (get_or xs i d))))

-- the text of what one item more says
pub grows-mapped : {W X Y : Type 0} {contents : W → Option (List ℕ)} {x y z : TextWriter W} (f : Y → List ℕ) (g : X → Y) (xs : List X) (i : ℕ) (item : X)
    → item ≡ get_or xs i item → i < length xs → Grows contents x y (flat_map f (map g (take i xs))) → Grows contents y z (f (g item))
    → Grows contents x z (flat_map f (map g (take (i + 1) xs)))
grows-mapped f g xs i item e lt h k =
    same-growth (ap (λ v. flat_map f (map g (take i xs)) ++ f (g v)) e ∙ sym (mapped-more f g xs i item lt)) (grows-more h k)
