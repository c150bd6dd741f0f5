-- What formats say more where it is told what values mean (LIN 2.2A, section 9.2.6). Where that
-- isn't told, they say nothing more.
use Rattle.std.specs.Prelude.{List, [], Option, Some, None, option_map}
use Rattle.std.specs.Borrow.{Bor}
use Rattle.lin_values.specs.Coded.{CodedData}

abbrev pub where_told : {X : Type 0} → Option CodedData → (CodedData → List X) → List X
where_told None says = []
where_told (Some k) says = says k

-- what code is told
abbrev pub given_coding : Option (Bor CodedData) → Option CodedData
given_coding o = option_map (λ (k : Bor CodedData). k.now) o
