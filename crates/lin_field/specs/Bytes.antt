-- Bytes of old editors that are read as spaces.
use Rattle.std.specs.Prelude.{ℕ, List, map, ◌==◌, ◌||◌, if◌then◌else◌}

-- vertical tab, form feed and control Z
abbrev pub field_byte : ℕ → ℕ
field_byte b = if b == 0x0B || (b == 0x0C || b == 0x1A) then 0x20 else b

abbrev pub field_bytes : List ℕ → List ℕ
field_bytes source = map field_byte source
