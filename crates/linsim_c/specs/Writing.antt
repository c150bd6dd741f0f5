-- What is written into the room that C lends.
use Rattle.std.specs.Prelude.{◌≡◌, ◌<◌, ◌≤◌, ℕ, List, ◌++◌, length, drop, Ok, Err}
use Rattle.linsim_c.specs.Statuses.{CallResult}
use Rattle.linsim_c.specs.declared.fault.Fault.TheVariants.{NoRoom, OutOfMemory}
use Rattle.linsim_c.specs.declared.written_text.Told.{Told}

-- what a call tells of a text with this number
abbrev pub told_of : ℕ → List ℕ → Told
told_of number text = record { length = length text; number = number }

-- The whole text at the beginning of the room, with what stood behind it as before; or nothing,
-- where it is longer than the room, or there was no memory.
abbrev pub Writes : ℕ → CallResult → List ℕ → List ℕ → List ℕ → Type 0
Writes number (Ok told) text old new =
    (told ≡ told_of number text) × (length text ≤ length old) × (new ≡ text ++ drop (length text) old)
Writes number (Err (NoRoom told)) text old new =
    (told ≡ told_of number text) × (length old < length text) × (new ≡ old)
Writes number (Err OutOfMemory) text old new = new ≡ old
Writes number (Err _) text old new = ⊥
