use Rattle.std.proofs.Common.{◌≡◌, ℕ, ◌-◌, ◌<◌, ◌^◌, Some, ap, sym, ◌∙◌, if◌then◌else◌, nat_lt, nat_le, ◌&&◌, arith}
use Rattle.std.proofs.lemmas.Bool.Decides.{nat_tests}
use Rattle.std.proofs.lemmas.Nat.Bits.{bit_at_ones}
use Rattle.lin_frame.specs.Frame.{bit}
use Rattle.lin_frame.proofs.PlacedBits.{empty_bit}
use Rattle.lin_frame.proofs.packing.empty_frame.Goals as goal

own_over_ones : (own b : ℕ) → b < 64 → (if nat_le 0 b && nat_lt b 8 then bit own (b - 0) else bit (2 ^ 64 - 1) b) ≡ empty_bit (Some own) b
own_over_ones own b h =
    let ones = bit_at_ones 64 b h in
    let same : bit own (b - 0) ≡ bit own b = ap (λ k. bit own k) (omega arith) in
    grind (arith, nat_tests, ones, same)

pub returns-in-Some : goal.returns-in-Some
returns-in-Some c = λ b h.
    c.put_bits.ensures b h
    ∙ ap (λ own. if nat_le 0 b && nat_lt b 8 then bit own (b - 0) else bit (2 ^ 64 - 1) b) c.from.ensures
    ∙ own_over_ones c.in-Some.own b h
    ∙ ap (λ pid. empty_bit pid b) (sym c.in-Some.is)

pub returns-in-None : goal.returns-in-None
returns-in-None c = λ b h. bit_at_ones 64 b h ∙ ap (λ pid. empty_bit pid b) (sym c.in-None.is)
