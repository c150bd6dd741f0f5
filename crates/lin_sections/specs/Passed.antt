-- Tokens that are passed over.
use Rattle.std.specs.Prelude.{ℕ, zero, suc, ◌+◌, ◌-◌, ◌==◌, ◌&&◌, List, [], ◌∷◌, length, Bool, not}
use Rattle.std.specs.Prelude.{if◌then◌else◌}
use Rattle.lin_ldf.specs.Forms.{is_front, tail}
use Rattle.lin_ldf.specs.Loops.{is_next}
use Rattle.lin_ldf.specs.Symbols.{Symbol, is_kind}
use Rattle.lin_ldf.specs.declared.token.TokenKind.{TokenKind}
use Rattle.lin_ldf.specs.declared.token.TokenKind.TheVariants.{OpenBrace, CloseBrace, Semicolon}

-- whether a token is left before the brace that closes the group
abbrev pub has_line : List Symbol → Bool
has_line ts = is_front (λ t. not (is_kind CloseBrace t.kind)) ts

-- how many braces are open after a token
abbrev pub brace_depth : ℕ → TokenKind → ℕ
brace_depth n kind =
    if is_kind OpenBrace kind then n + 1 else if is_kind CloseBrace kind then n - 1 else n

-- what stands behind the next semicolon outside of braces, or from the brace on that closes more;
-- n braces are open
abbrev pub behind_line : ℕ → List Symbol → List Symbol
behind_line n [] = []
behind_line n (t ∷ ts) =
    if n == 0 && is_kind CloseBrace t.kind then t ∷ ts
    else if n == 0 && is_kind Semicolon t.kind then ts
    else behind_line (brace_depth n t.kind) ts

-- as long as a test holds, what one step makes of what was before it; so many steps at most
abbrev pub steps_while : {X : Type 0} → ℕ → (X → Bool) → (X → X) → X → X
steps_while zero test step x = x
steps_while (suc k) test step x = if test x then steps_while k test step (step x) else x

-- what stands from the brace on that closes the group (each line takes a token, so that there are at
-- most as many lines as tokens)
abbrev pub behind_lines : List Symbol → List Symbol
behind_lines ts = steps_while (length ts) has_line (behind_line 0) ts

abbrev pub behind_closing : List Symbol → List Symbol
behind_closing ts = if is_next CloseBrace ts then tail ts else ts

-- what stands behind a group, which begins with a brace
abbrev pub behind_group : List Symbol → List Symbol
behind_group ts = behind_closing (behind_lines (tail ts))

-- what stands behind the next group or the next semicolon, whichever comes first, or from the brace
-- on that closes more
abbrev pub behind_block : List Symbol → List Symbol
behind_block [] = []
behind_block (t ∷ ts) =
    if is_kind CloseBrace t.kind then t ∷ ts
    else if is_kind OpenBrace t.kind then behind_group (t ∷ ts)
    else if is_kind Semicolon t.kind then ts
    else behind_block ts
