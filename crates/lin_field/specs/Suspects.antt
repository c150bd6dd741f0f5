-- Whether a mark that is left out may stand in a text, as its bytes tell. The search computes these;
-- no public contract cites them.
use Rattle.std.specs.Prelude.{ℕ, List, [], ◌∷◌, Bool, false, ◌==◌, ◌&&◌, ◌||◌, if◌then◌else◌}
use Rattle.memchr.specs.Find.{is_byte2}
use Rattle.lin_ldf.specs.Bytes.{is_separator}

abbrev pub behind_separators : List ℕ → List ℕ
behind_separators [] = []
behind_separators (c ∷ cs) = if is_separator c then behind_separators cs else c ∷ cs

-- before a semicolon or what may be a comment, and a comma before a closing brace
abbrev pub is_suspect : ℕ → List ℕ → Bool
is_suspect mark [] = false
is_suspect mark (c ∷ cs) = c == 0x3B || (c == 0x2F || (c == 0x7D && mark == 0x2C))

-- a comma or a semicolon stands so
abbrev pub has_suspect : List ℕ → Bool
has_suspect [] = false
has_suspect (c ∷ cs) =
    (is_byte2 0x2C 0x3B c && is_suspect c (behind_separators cs)) || has_suspect cs
