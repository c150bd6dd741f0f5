-- What reading a whole text answers.
use Rattle.std.specs.Prelude.{◌≡◌, ℕ, ◌<◌, ◌≤◌, List, length, Option, IfSome, Result, Ok, Err}
use Rattle.lin_text.specs.declared.reading.ReadFault.{ReadFault}
use Rattle.lin_text.specs.declared.reading.ReadFault.TheVariants.{TooLong, ReadFailed, OutOfMemory}

-- when reading up to this limit has this fault; the reader's bytes, where they are known
abbrev pub HasFault : ℕ → ReadFault → Option (List ℕ) → Type 0
HasFault limit TooLong known = IfSome known (λ bytes. limit < length bytes)
HasFault limit ReadFailed known = Unit {0}
HasFault limit OutOfMemory known = Unit {0}

-- all the bytes of a reader, where they are known, and never more than the limit
abbrev pub ReadsWhole : {X : Type 0} → ℕ → (X → List ℕ) → Result X ReadFault
    → Option (List ℕ) → Type 0
ReadsWhole limit view (Ok x) known =
    IfSome known (λ bytes. view x ≡ bytes) × (length (view x) ≤ limit)
ReadsWhole limit view (Err fault) known = HasFault limit fault known
