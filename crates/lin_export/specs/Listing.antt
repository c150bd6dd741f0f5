-- What a cluster has, as lines.
use Rattle.std.specs.Prelude.{ℕ, ◌+◌, List, [], ◌∷◌, ◌++◌, length, Option, Some, None, codes}
use Rattle.std.specs.Fmt.{decimal}
use Rattle.lin_parts.specs.declared.parts.Node.{Node}
use Rattle.lin_parts.specs.declared.parts.Parts.{Parts}
use Rattle.lin_parts.specs.declared.parts.Signal.{Signal}
use Rattle.lin_parts.specs.declared.parts.Table.{Table}
use Rattle.lin_log.specs.CallerTexts.{seen_text}
use Rattle.lin_log.specs.Language.{plain}
use Rattle.lin_log.specs.Words.{Word, line, word_text}
use Rattle.lin_log.specs.Words.Word.{Fixed, Number}

-- a diagnostic address, and `-` for none
abbrev pub address_word : Option ℕ → Word
address_word None = Fixed (codes "-")
address_word (Some nad) = Number nad

abbrev pub node_line : ℕ → Node → List ℕ
node_line n node =
    line (codes "node" ∷ decimal n ∷ seen_text node.name ∷ word_text plain (address_word node.nad) ∷ [])

abbrev pub signal_line : ℕ → Signal → List ℕ
signal_line n signal = line (codes "signal" ∷ decimal n ∷ seen_text signal.name ∷ [])

abbrev pub table_line : ℕ → Table → List ℕ
table_line n table =
    line (codes "table" ∷ decimal n ∷ seen_text table.name ∷ decimal (length table.lines) ∷ [])

-- the lines of things that are numbered from n on
abbrev pub numbered_lines : {X : Type 0} → (ℕ → X → List ℕ) → ℕ → List X → List ℕ
numbered_lines f n [] = []
numbered_lines f n (x ∷ xs) = f n x ++ numbered_lines f (n + 1) xs

-- a line for each node, for each signal and for each schedule table
abbrev pub listing : Parts → List ℕ
listing c =
    numbered_lines node_line 0 c.nodes ++ numbered_lines signal_line 0 c.signals
    ++ numbered_lines table_line 0 c.tables
