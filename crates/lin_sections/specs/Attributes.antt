-- The attributes of nodes (LIN 2.2A, section 9.2.2.2), among all tokens of a text.
use Rattle.std.specs.Prelude.{List, [], ◌∷◌, ◌&&◌, codes, flat_map, if◌then◌else◌}
use Rattle.lin_ldf.specs.Forms.{front}
use Rattle.lin_ldf.specs.Symbols.{Symbol}
use Rattle.lin_ldf.specs.Words.{is_word_next, name_of}
use Rattle.lin_sections.specs.Statements.{inside, is_group, statements}
use Rattle.lin_sections.specs.declared.attribute_blocks.NodeAttributes.{NodeAttributes}

-- ---- each attribute by the tokens from its word on

-- the block of a node: its name, and its attributes
abbrev pub block_of : List Symbol → List NodeAttributes
block_of ts =
    if is_group ts
    then record { node = name_of (front ts); attributes = statements (inside ts) } ∷ []
    else []

-- the blocks of the section Node_attributes
abbrev pub attribute_blocks : List Symbol → List NodeAttributes
attribute_blocks ts =
    if is_group ts && is_word_next (codes "Node_attributes") ts
    then flat_map block_of (statements (inside ts))
    else []

-- those of a text
abbrev pub node_attributes : List Symbol → List NodeAttributes
node_attributes ts = flat_map attribute_blocks (statements ts)
