-- Lines as they are put, word by word and thing by thing.
use Rattle.std.proofs.Common.{◌≡◌, ℕ, ◌+◌, List, [], ◌∷◌, ◌++◌, Option, false, flat_map, sym, ap, ◌∙◌, append_assoc, append-nil, add-one}
use Rattle.std.proofs.lemmas.Grind.{flat_map-append}
use Rattle.lin_frame.specs.Words.{numbers}
use Rattle.lin_frame.specs.declared.layout.Place.{Place}
use Rattle.lin_log.specs.Words.{line_tail, line, spaced_word}
use Rattle.lin_text.proofs.Growing.{grows-more, same-growth}
use Rattle.lin_text.specs.Written.{Grows}
use Rattle.lin_text.specs.declared.buffered.TextWriter.{TextWriter}
use Rattle.lin_export.proofs.Lines.{ended-both}

-- the lines of one number more
pub numbers-next : (f : ℕ → List ℕ) (i : ℕ) → flat_map f (numbers (i + 1)) ≡ flat_map f (numbers i) ++ f i
numbers-next f i =
    rw add-one (flat_map-append f (numbers i) (i ∷ []) ∙ ap (λ l. flat_map f (numbers i) ++ l) (append-nil (f i)))

pub grows-number : {W : Type 0} {contents : W → Option (List ℕ)} {x y z : TextWriter W} (f : ℕ → List ℕ) (i : ℕ)
    → Grows contents x y (flat_map f (numbers i)) → Grows contents y z (f i) → Grows contents x z (flat_map f (numbers (i + 1)))
grows-number f i h k = same-growth (sym (numbers-next f i)) (grows-more h k)

-- what a line begins with, and the words that end it
pub head-and-members : (kind : List ℕ) (head members : List (List ℕ)) → (kind ++ flat_map spaced_word head) ++ line_tail members ≡ line (kind ∷ (head ++ members))
head-and-members kind head members = append_assoc kind (flat_map spaced_word head) (line_tail members) ∙ ap (λ l. kind ++ l) (ended-both head members)

-- what is read after the end of a frame's places
abbrev pub no_place : Place
no_place = record { offset = 0; size = 0; array = false }
