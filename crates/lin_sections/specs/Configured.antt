-- The frames that the attributes of nodes list as configurable (LIN 2.2A, section 9.2.2.2), among all
-- tokens of a text.
use Rattle.std.specs.Prelude.{ℕ, List, [], ◌∷◌, ◌++◌, length, codes, if◌then◌else◌}
use Rattle.std.specs.Str.{bytes_eq}
use Rattle.lin_cluster.specs.declared.lints.configurable.Configurable.{Configurable}
use Rattle.lin_parts.specs.declared.description.Name.{Name}
use Rattle.lin_ldf.specs.Forms.{has_front, front, tail}
use Rattle.lin_ldf.specs.Loops.{is_next}
use Rattle.lin_ldf.specs.Symbols.{Symbol}
use Rattle.lin_ldf.specs.Words.{is_word_next, name_of}
use Rattle.lin_ldf.specs.declared.token.TokenKind.TheVariants.{Word, OpenBrace}
use Rattle.lin_sections.specs.Passed.{behind_line, behind_group, steps_while}
use Rattle.lin_sections.specs.Reading.{through_lines}

-- the WORD with which a line of a list begins: WORD ';', or in LIN 2.0 WORD '=' INT ';'
abbrev pub with_listed_name : List Symbol × List Name → List Symbol × List Name
with_listed_name x =
    (behind_line 0 x.0, if is_next Word x.0 then x.1 ++ name_of (front x.0) ∷ [] else x.1)

-- the names of a list, which begins with a brace
abbrev pub with_names : List Symbol → List Name → List Symbol × List Name
with_names ts names = through_lines with_listed_name (tail ts, names)

-- an attribute: a word before a group, or before a value and a semicolon
abbrev pub with_attribute : List Symbol × List Name → List Symbol × List Name
with_attribute x =
    if is_next OpenBrace (tail x.0)
    then (if is_word_next (codes "configurable_frames") x.0 then with_names (tail x.0) x.1
    else (behind_group (tail x.0), x.1))
    else (behind_line 0 (tail x.0), x.1)

-- the names that the attributes of a node list, which begin with a brace
abbrev pub listed_names : List Symbol → List Symbol × List Name
listed_names ts = through_lines with_attribute (tail ts, [])

-- the frames of a node more, if it lists any
abbrev pub with_frame_list : Name → List Name → List Configurable → List Configurable
with_frame_list node [] cs = cs
with_frame_list node (n ∷ ns) cs = cs ++ record { node = node; frames = n ∷ ns } ∷ []

abbrev pub with_listed : Name → List Symbol × List Name → List Configurable
    → List Symbol × List Configurable
with_listed node read cs = (read.0, with_frame_list node read.1 cs)

-- the attributes of a node, which begin with its name
abbrev pub with_node_block : List Symbol × List Configurable → List Symbol × List Configurable
with_node_block x =
    if is_next OpenBrace (tail x.0)
    then with_listed (name_of (front x.0)) (listed_names (tail x.0)) x.1
    else (behind_line 0 (tail x.0), x.1)

-- the attributes of all nodes, which begin with a brace
abbrev pub with_blocks : List Symbol → List Configurable → List Symbol × List Configurable
with_blocks ts cs = through_lines with_node_block (tail ts, cs)

-- a section of this word, from its brace on
abbrev pub with_section : List ℕ → List Symbol → List Configurable
    → List Symbol × List Configurable
with_section w ts cs =
    if bytes_eq w (codes "Node_attributes") then with_blocks ts cs else (behind_group ts, cs)

-- what begins with a token outside of all braces: a section, where that is a WORD before a brace, or
-- a line, where it is any other WORD
abbrev pub with_statement : List Symbol × List Configurable → List Symbol × List Configurable
with_statement x =
    if is_next Word x.0
    then (if is_next OpenBrace (tail x.0) then with_section (front x.0).text (tail x.0) x.1
    else (behind_line 0 (tail x.0), x.1))
    else (tail x.0, x.1)

-- (each statement takes a token)
abbrev pub configurables : List Symbol → List Configurable
configurables ts = (steps_while (length ts) (λ x. has_front x.0) with_statement (ts, [])).1
