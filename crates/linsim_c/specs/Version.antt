-- The version of the library.
use Rattle.std.specs.Prelude.{◌≡◌, ◌⊎◌, ◌<◌, ◌≤◌, ℕ, List, ◌++◌, length, drop, codes}
use Rattle.linsim_c.specs.declared.fault.Report.{Report}

-- as a text, and as a number: 1,000,000 for each major version, 1,000 for each minor one, 1 for each
-- patch
abbrev pub version_text : List ℕ
version_text = codes "0.2.0"

abbrev pub version_number : ℕ
version_number = 2000

-- the text's length, and the number
abbrev pub version_report : Report
version_report = record { length = length version_text; line = 0; column = 0; number = version_number }

-- the whole text is written, and the status is 0; or the buffer is too small, nothing is written, and
-- the status is 8
abbrev pub GivesVersion : ℕ → List ℕ → List ℕ → Type 0
GivesVersion status old new =
    ((length version_text ≤ length old) × (status ≡ 0) × (new ≡ version_text ++ drop (length version_text) old))
    ⊎ ((length old < length version_text) × (status ≡ 8) × (new ≡ old))
