-- The bytes of a text, as they are kept. No promise rests on this file.
use Rattle.std.specs.Prelude.{ℕ, List, take, ◌≤◌}
use Rattle.lin_text.specs.declared.lists.Kept.{Kept}
use Rattle.lin_text.specs.declared.lists.Kept.TheVariants.{Long, Short}

abbrev pub bytes_in : Kept → List ℕ
bytes_in (Short len bytes) = take len bytes
bytes_in (Long bytes) = bytes.value.items

-- so many bytes lie in their place
abbrev pub FitsInPlace : Kept → Type 0
FitsInPlace (Short len bytes) = len ≤ 14
FitsInPlace (Long bytes) = Unit {0}
