-- The limits of transfers in the attributes of nodes, in microseconds (LIN 2.2A, section 9.2.2.2).
use Rattle.std.specs.Prelude.{ℕ, List, [], ◌∷◌, codes, map, unwrap_or, Option, None, if◌then◌else◌}
use Rattle.std.specs.Option.{option_or}
use Rattle.lin_ldf.specs.Symbols.{Symbol}
use Rattle.lin_ldf.specs.Words.{is_word_next}
use Rattle.lin_sections.specs.AttributeValues.{milliseconds_in}
use Rattle.lin_sections.specs.Attributes.{node_attributes}
use Rattle.lin_sections.specs.declared.attribute_blocks.NodeAttributes.{NodeAttributes}
use Rattle.lin_sections.specs.declared.transfer_limits.TransferLimits.{TransferLimits}

-- the time of an attribute that has this word
abbrev pub time_with : List ℕ → List Symbol → Option ℕ
time_with word ts = if is_word_next word ts then milliseconds_in ts else None

-- the first attribute that is such a time counts; without one it is a second
abbrev pub first_time : List ℕ → List (List Symbol) → Option ℕ
first_time word [] = None
first_time word (ts ∷ attributes) = option_or (time_with word ts) (first_time word attributes)

abbrev pub time_or_usual : List ℕ → List (List Symbol) → ℕ
time_or_usual word attributes = unwrap_or (first_time word attributes) 1000000

-- N_Cr_timeout limits messages to the node, N_As_timeout those from it
abbrev pub limits_of : NodeAttributes → TransferLimits
limits_of b = record {
  node = b.node;
  down_us = time_or_usual (codes "N_Cr_timeout") b.attributes;
  up_us = time_or_usual (codes "N_As_timeout") b.attributes;
}

abbrev pub transfer_limits : List Symbol → List TransferLimits
transfer_limits ts = map limits_of (node_attributes ts)
