-- The statements of an LDF text, and those of its groups. A text has sections, each a WORD and a group,
-- and lines that end with a semicolon (LIN 2.2A, section 9.2). The group of Node_attributes has a WORD and
-- a group for each node, and that group has attributes, each a WORD and a group, or a WORD and more up to
-- a semicolon (section 9.2.2.2).
use Rattle.std.specs.Prelude.{ℕ, zero, suc, List, [], ◌∷◌, ◌&&◌, Bool, Option, Some, None, length}
use Rattle.std.specs.Prelude.{if◌then◌else◌}
use Rattle.lin_ldf.specs.Forms.{tail}
use Rattle.lin_ldf.specs.Loops.{is_next}
use Rattle.lin_ldf.specs.Symbols.{Symbol}
use Rattle.lin_ldf.specs.Words.{group, list}
use Rattle.lin_ldf.specs.declared.token.TokenKind.TheVariants.{Word, OpenBrace}
use Rattle.lin_sections.specs.Passed.{has_line}

-- whether a WORD and a group are next
abbrev pub is_group : List Symbol → Bool
is_group ts = is_next Word ts && is_next OpenBrace (tail ts)

-- from behind the opening brace of this group on
abbrev pub inside : List Symbol → List Symbol
inside ts = tail (tail ts)

-- what is behind what was read; nothing if it wasn't in its form
abbrev pub tokens_left : Option (Unit {0} × List Symbol) → List Symbol
tokens_left None = []
tokens_left (Some read) = read.1

-- behind a WORD and its group, or what ends with the next semicolon outside of braces
abbrev pub behind_statement : List Symbol → List Symbol
behind_statement ts = tokens_left (if is_group ts then group.read (tail ts) else list.read ts)

-- where statements begin, so many at most, up to the brace that closes the group in which they are
abbrev pub statements_at : ℕ → List Symbol → List (List Symbol)
statements_at zero ts = []
statements_at (suc n) ts =
    if has_line ts then ts ∷ statements_at n (behind_statement ts) else []

-- (each takes a token)
abbrev pub statements : List Symbol → List (List Symbol)
statements ts = statements_at (length ts) ts
