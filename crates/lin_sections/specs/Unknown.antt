-- 27 UnknownWord: the words of sections (LIN 2.2A, section 9.2) and of node attributes (section 9.2.2.2)
-- that no version of LIN has, among all tokens of a text.
use Rattle.std.specs.Prelude.{ℕ, List, [], ◌&&◌, Bool, codes, flat_map, not, if◌then◌else◌}
use Rattle.lin_cluster.specs.FindingsNames.{when}
use Rattle.lin_cluster.specs.Kinds.{finding_at}
use Rattle.lin_cluster.specs.declared.finding.Finding.{Finding}
use Rattle.lin_cluster.specs.declared.finding.FindingKind.TheVariants.{UnknownWord}
use Rattle.lin_ldf.specs.Forms.{front}
use Rattle.lin_ldf.specs.Loops.{is_next}
use Rattle.lin_ldf.specs.Names.{has_name}
use Rattle.lin_ldf.specs.Symbols.{Symbol}
use Rattle.lin_ldf.specs.Words.{is_word_next}
use Rattle.lin_ldf.specs.declared.token.TokenKind.TheVariants.{Word}
use Rattle.lin_ldf.specs.Known.{known_attributes, known_sections}
use Rattle.lin_sections.specs.Statements.{inside, is_group, statements}

-- the next token, if it is a WORD that isn't known
abbrev pub unknown_unless : Bool → List Symbol → List Finding
unknown_unless is_known ts =
    when (is_next Word ts && not is_known)
    (finding_at UnknownWord (front ts).line (front ts).column)

abbrev pub unknown_among : List (List ℕ) → List Symbol → List Finding
unknown_among known ts = unknown_unless (has_name known (front ts).text) ts

-- the attributes of a node
abbrev pub unknown_of_node : List Symbol → List Finding
unknown_of_node ts =
    if is_group ts then flat_map (unknown_among known_attributes) (statements (inside ts)) else []

-- a section, or in Node_attributes the attributes of all nodes
abbrev pub unknown_of_section : List Symbol → List Finding
unknown_of_section ts =
    if is_group ts
    then (if is_word_next (codes "Node_attributes") ts
    then flat_map unknown_of_node (statements (inside ts))
    else unknown_among known_sections ts)
    else []

abbrev pub unknown_words : List Symbol → List Finding
unknown_words ts = flat_map unknown_of_section (statements ts)
