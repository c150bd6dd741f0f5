-- What a dump is read as: lines, and of these the last value of each variable.
use Rattle.std.specs.Prelude.{◌≡◌, ℕ, ◌≤◌, ◌<◌, if◌then◌else◌, true, All, List, [], ◌∷◌, ◌++◌}
use Rattle.std.specs.Prelude.{codes, flat_map, length, reverse, Option, Some, None, ⊤}
use Rattle.std.specs.Fmt.{decimal}
use Rattle.std.specs.Option.{option_or}
use Rattle.std.specs.Str.{bytes_eq}
use Rattle.lin_parts.specs.Cluster.{signal_of}
use Rattle.lin_parts.specs.declared.parts.Parts.{Parts}
use Rattle.lin_core.specs.Signals.{heard_value, value}
use Rattle.lin_core.specs.declared.log.LogEntry.{LogEntry}
use Rattle.lin_values.specs.Coded.{has_range, CodedData}
use Rattle.lin_values.specs.Meaning.{meaning}
use Rattle.lin_export.specs.Vcd.{before_code, code, declarations, digits, heard_number}
use Rattle.lin_export.specs.Vcd.{physical_number, real_line, real_value, text_line, vcd}
use Rattle.lin_export.specs.Vcd.{written_number}

-- a line: a time in microseconds, a variable of so many bits by its code and the digits of its new
-- value, a variable of decimals and its new one, or a variable whose value isn't known
pub data Line : Type 0 where
  Time : (at : ℕ) → Line
  Change : (width : ℕ) → (variable : List ℕ) → (value : List ℕ) → Line
  Real : (variable : List ℕ) → (value : List ℕ) → Line
  Unknown : (variable : List ℕ) → Line

abbrev pub line_bytes : Line → List ℕ
line_bytes (Time at) = 35 ∷ (decimal at ++ 10 ∷ [])
line_bytes (Change width variable value) = before_code width value ++ (variable ++ 10 ∷ [])
line_bytes (Real variable value) = real_line variable value
line_bytes (Unknown variable) = codes "bx " ++ (variable ++ 10 ∷ [])

-- a new value has as many digits as its variable has bits, each 0 or 1
abbrev pub IsDigit : ℕ → Type 0
IsDigit byte = (48 ≤ byte) × (byte ≤ 49)

abbrev pub IsLine : Line → Type 0
IsLine (Time at) = ⊤
IsLine (Change width variable value) = (length value ≡ width) × All IsDigit value
IsLine (Real variable value) = ⊤
IsLine (Unknown variable) = ⊤

-- the value that a line gives to the variable of a code, and the last one of lines
abbrev pub value_for : List ℕ → Line → Option (List ℕ)
value_for code (Time at) = None
value_for code (Change width variable value) = if bytes_eq variable code then Some value else None
value_for code (Real variable value) = if bytes_eq variable code then Some value else None
value_for code (Unknown variable) = if bytes_eq variable code then Some (codes "x") else None

abbrev pub last_value : List ℕ → List Line → Option (List ℕ)
last_value code [] = None
last_value code (l ∷ ls) = option_or (last_value code ls) (value_for code l)

-- Of a history, the dump has lines, the first of them between the marks of first values; the last
-- value of each signal as it is heard, and as it is written, is the one that the core has. Where it
-- is told what values mean, the last decimal of a signal that has a range is what the heard value
-- means.
pub record IsDumped (c : Parts) (k : Option CodedData) (past : List LogEntry) : Type 0 where
  pub first : List Line
  pub lines : List Line
  pub bytes : vcd c k (reverse past)
      ≡ declarations c k
      ++ (text_line (codes "#0")
      ++ (text_line (codes "$dumpvars")
      ++ (flat_map line_bytes first
      ++ (text_line (codes "$end") ++ flat_map line_bytes lines))))
  pub good : All IsLine (first ++ lines)
  pub heard : (s : ℕ) → s < length c.signals
      → last_value (code (heard_number s)) (first ++ lines)
      ≡ Some (digits (signal_of c s).size (heard_value c past s))
  pub written : (s : ℕ) → s < length c.signals
      → last_value (code (written_number c s)) (first ++ lines)
      ≡ Some (digits (signal_of c s).size (value c past s))
  pub physical : (d : CodedData) → k ≡ Some d → (s : ℕ) → s < length c.signals
      → has_range d s ≡ true
      → last_value (code (physical_number c s)) (first ++ lines)
      ≡ Some (real_value (meaning d s (heard_value c past s)))
