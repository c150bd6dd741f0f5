-- The room that digits leave.
use Rattle.std.proofs.Common.{◌≡◌, ℕ, ◌+◌, ◌-◌, ◌*◌, ◌^◌, ◌<◌, ◌≤◌, ap, ◌∙◌, arith, inl, inr, eq-zero-or-pos}
use Rattle.std.proofs.Math.Nat.{mul-le-mul_right, one-le-pow}
use Rattle.lin_sections.specs.Real.{HasRoom}
use Rattle.lin_values.proofs.Powers.{ten-more, ten-below}

-- a digit 0
pub room-kept : (u left down : ℕ) → HasRoom u left down → HasRoom u (left - 1) down
room-kept u left down h = (
  λ far. h.0 (omega arith),
  λ near. elim (eq-zero-or-pos (left - down - 33)) [
    | inl z ↦ (let fits = h.1 (omega arith) in omega (arith, fits, ten-below (left - 1 - down) (left - down) (omega arith)))
    | inr g ↦ (let none = h.0 (omega arith) in omega (arith, none, ten-below (left - 1 - down) 33 near))
  ],
)

pub digit-fits : (u d left down : ℕ) → d < 10 → down < left → left - down ≤ 33 → HasRoom u left down
    → u + d * 10 ^ (left - down - 1) + 10 ^ (left - down - 1) ≤ 10 ^ 33
digit-fits u d left down s l near h =
    let fits = h.1 near in
    let e : left - down ≡ (left - down - 1) + 1 = omega arith in
    let tens : 10 ^ (left - down) ≡ 10 * 10 ^ (left - down - 1) = ap (λ k. 10 ^ k) e ∙ ten-more (left - down - 1) in
    omega (arith, fits, tens, mul-le-mul_right {m = d} {n = 9} (10 ^ (left - down - 1)) (omega arith))

-- any digit
pub room-taken : (u d left down : ℕ) → d < 10 → down < left → left - down ≤ 33 → HasRoom u left down
    → HasRoom (u + d * 10 ^ (left - down - 1)) (left - 1) down
room-taken u d left down s l near h =
    let fits = digit-fits u d left down s l near h in
    let e : left - 1 - down ≡ left - down - 1 = omega arith in
    rw e ((λ far. absurd (omega arith)), (λ near. fits))

pub room-below : (u left down : ℕ) → HasRoom u left down → u < 10 ^ 33
room-below u left down h =
    elim (eq-zero-or-pos (left - down - 33)) [
      | inl z ↦ (let fits = h.1 (omega arith) in omega (arith, fits, one-le-pow (left - down) 10 (omega arith)))
      | inr g ↦ (let none = h.0 (omega arith) in omega (arith, none))
    ]

pub room-first : (left down : ℕ) → HasRoom 0 left down
room-first left down = ((λ far. omega arith), (λ near. omega (arith, ten-below (left - down) 33 near)))
