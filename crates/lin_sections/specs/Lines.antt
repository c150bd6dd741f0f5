-- The lines of a group, each up to a semicolon outside of braces: those of configurable_frames, and the
-- entries of a schedule table (LIN 2.2A, sections 9.2.2.2 and 9.2.5).
use Rattle.std.specs.Prelude.{ℕ, zero, suc, List, [], ◌∷◌, length, if◌then◌else◌}
use Rattle.lin_ldf.specs.Symbols.{Symbol}
use Rattle.lin_sections.specs.Passed.{behind_line, has_line}

-- where lines begin, so many at most, up to the brace that closes the group
abbrev pub lines_at : ℕ → List Symbol → List (List Symbol)
lines_at zero ts = []
lines_at (suc n) ts = if has_line ts then ts ∷ lines_at n (behind_line 0 ts) else []

-- (each takes a token)
abbrev pub token_lines : List Symbol → List (List Symbol)
token_lines ts = lines_at (length ts) ts
