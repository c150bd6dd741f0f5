-- What is kept of a line that isn't ended yet.
use Rattle.std.specs.Prelude.{ℕ, ◌==◌, Bool, false, nat_le, if◌then◌else◌, List, ◌++◌, length}
use Rattle.std.specs.Prelude.{Option, Some, None}
use Rattle.std.specs.Str.Lines.{strip_carriage_return}
use Rattle.lin_live.specs.Transcript.{short}

-- its bytes, none where they are more than those of a line and a CR
abbrev pub bytes_within_line : List ℕ → Option (List ℕ)
bytes_within_line bytes = if nat_le (length bytes) 16777217 then Some bytes else None

-- with more bytes
abbrev pub with_bytes : Option (List ℕ) → List ℕ → Option (List ℕ)
with_bytes None more = None
with_bytes (Some bytes) more = bytes_within_line (bytes ++ more)

-- the line that ends here
abbrev pub ended_line : Option (List ℕ) → Option (List ℕ)
ended_line None = None
ended_line (Some bytes) = short (strip_carriage_return bytes)

-- whether it has no byte
abbrev pub is_nothing : Option (List ℕ) → Bool
is_nothing None = false
is_nothing (Some bytes) = length bytes == 0
