use Rattle.std.proofs.Common.{refl, List, ℕ, ◌≡◌, ◌∷◌, [], ◌==◌, false, length}
use Rattle.lin_text.proofs.Growing.{grows-more}
use Rattle.lin_values.specs.Shown.{unit_shown}
use Rattle.lin_values.proofs.meaning.put_meaning.Goals as goal

unit-behind : (unit : List ℕ) → false ≡ (length unit == 0) → unit_shown unit ≡ 32 ∷ unit
unit-behind [] h = cc
unit-behind (c ∷ cs) h = refl

pub returns-in-Physical : goal.returns-in-Physical
returns-in-Physical g c =
    let text = grows-more c.put_decimal.ensures (grows-more c.put_byte.ensures c.put.ensures) in
    rw c.in-Physical.is (rw (unit-behind c.in-Physical.unit.now c.if-not-is_empty.ensures) (rw c.decimal.ensures.same at text))

pub returns-in-Letters : goal.returns-in-Letters
returns-in-Letters g c =
    let text = grows-more c.put_byte-in-Letters.ensures (grows-more c.put-in-Letters.ensures c.put_byte-in-Letters-2.ensures) in
    rw c.in-Letters.is (rw c.as_slice.ensures.value at text)
