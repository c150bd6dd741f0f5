-- Digits and characters in the order of the items: the first that means something is the first of
-- all, or else the first of the other kind.
use Rattle.std.proofs.Common.{◌≡◌, refl, Option, Some, None, List, [], ◌∷◌, not, filter}
use Rattle.std.specs.Prelude.{option_and_then}
use Rattle.lin_values.specs.Coded.{first_of, or_else, same_coding}
use Rattle.lin_values.specs.Meaning.{first_some}
use Rattle.lin_values.specs.Meant.{Meant}
use Rattle.lin_values.specs.declared.encoding.Coding.{Coding}
use Rattle.lin_values.specs.declared.encoding.Coding.TheVariants.{Bcd, Ascii}

none-means : (f : Coding → Option Meant) → f Bcd ≡ None → f Ascii ≡ None → (cs : List Coding) → first_some f cs ≡ None
none-means f b a [] = refl
none-means f b a (Bcd ∷ cs) = rw b (none-means f b a cs)
none-means f b a (Ascii ∷ cs) = rw a (none-means f b a cs)

or-none : (o p : Option Meant) → (o ≡ None → p ≡ None) → or_else o p ≡ o
or-none None p h = h refl
or-none (Some m) p h = refl

other-means : (f : Coding → Option Meant) (a : Coding) → f a ≡ None → (cs : List Coding) → first_some f cs ≡ option_and_then f (first_of (filter (λ b. not (same_coding a b)) cs))
other-means f a n [] = refl
other-means f Bcd n (Bcd ∷ cs) = rw n (other-means f Bcd n cs)
other-means f Bcd n (Ascii ∷ cs) = or-none (f Ascii) (first_some f cs) (λ m. none-means f n m cs)
other-means f Ascii n (Bcd ∷ cs) = or-none (f Bcd) (first_some f cs) (λ m. none-means f m n cs)
other-means f Ascii n (Ascii ∷ cs) = rw n (other-means f Ascii n cs)

pub second-means : (f : Coding → Option Meant) (cs : List Coding) (a : Coding) → first_of cs ≡ Some a → f a ≡ None → first_some f cs ≡ option_and_then f (option_and_then (λ b. first_of (filter (λ c. not (same_coding b c)) cs)) (first_of cs))
second-means f [] a e n = cc
second-means f (c ∷ cs) a e n =
    let same : c ≡ a = cc in
    let none : f c ≡ None = rw same n in
    other-means f c none (c ∷ cs)
