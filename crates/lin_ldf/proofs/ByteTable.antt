-- The table of the classes of bytes is held against each test of a byte at all 256 bytes, by computing.
use Rattle.std.proofs.Common.{◌≡◌, ℕ, zero, suc, ◌<◌, Bool, true, false, ◌&&◌, get_or, refl, arith, inl, inr}
use Rattle.std.specs.Bool.{beq}
use Rattle.std.proofs.lemmas.Bool.{cases_eq}
use Rattle.lin_ldf.specs.declared.classes.TheConstants.{CLASS}

abbrev class_of : ℕ → ℕ
class_of c = get_or CLASS c 0

-- the bytes below n whose class passes the one test are those that pass the other
unfoldable pub agree_below : (ℕ → Bool) → (ℕ → Bool) → ℕ → Bool
agree_below of_class of_byte zero = true
agree_below of_class of_byte (suc n) = beq (of_class (class_of n)) (of_byte n) && agree_below of_class of_byte n

both_of : (x y rest : Bool) → (beq x y && rest) ≡ true → (x ≡ y) × (rest ≡ true)
both_of true true rest h = (refl, h)
both_of true false rest h = absurd cc
both_of false true rest h = absurd cc
both_of false false rest h = (refl, h)

agree_at : (of_class of_byte : ℕ → Bool) (n : ℕ) → agree_below of_class of_byte n ≡ true → (c : ℕ) → c < n → of_class (class_of c) ≡ of_byte c
unfolding agree_below
agree_at of_class of_byte zero h c lt = absurd (omega arith)
agree_at of_class of_byte (suc n) h c lt =
    let both = both_of (of_class (class_of n)) (of_byte n) (agree_below of_class of_byte n) h in
    elim (cases_eq c n) [ inl same ↦ rw same both.0 | inr other ↦ agree_at of_class of_byte n both.1 c (omega arith) ]

pub by_class : (of_class of_byte : ℕ → Bool) (c : ℕ) → c < 256 → agree_below of_class of_byte 256 ≡ true → of_class (class_of c) ≡ of_byte c
by_class of_class of_byte c lt h = agree_at of_class of_byte 256 h c lt
