-- Attributes of a text of the field (LIN 2.2A, section 9.2.2.2; LIN 1.3 for the addresses): one
-- block for each node that something is told of.
use Rattle.std.specs.Prelude.{ℕ, List, [], ◌∷◌, ◌++◌, ◌&&◌, ◌==◌, Bool, false, not, map, filter, flat_map}
use Rattle.std.specs.Prelude.{filter_map, find, Option, Some, None, is_none, option_and_then}
use Rattle.std.specs.Prelude.{nat_le, if◌then◌else◌}
use Rattle.std.specs.List.{list_any}
use Rattle.std.specs.Option.{option_map, option_map_or, option_or}
use Rattle.lin_cluster.specs.FindingsNames.{at_number, same_name, when}
use Rattle.lin_cluster.specs.Identifiers.{is_repeated}
use Rattle.lin_cluster.specs.declared.finding.Finding.{Finding}
use Rattle.lin_cluster.specs.declared.finding.FindingKind.TheVariants.{BadNad}
use Rattle.lin_cluster.specs.declared.finding.FindingKind.TheVariants.{NadTwice, InitialNad}
use Rattle.lin_parts.specs.declared.description.Attributes.{Attributes}
use Rattle.lin_parts.specs.declared.description.Name.{Name}
use Rattle.lin_parts.specs.declared.description.Number.{Number}
use Rattle.lin_field.specs.Names.{is_loose_node, is_loose_responder, node_list}
use Rattle.lin_field.specs.Signals.{unknown_loose_node}
use Rattle.lin_field.specs.declared.loose.LooseAttributes.{LooseAttributes}
use Rattle.lin_field.specs.declared.loose.LooseNodes.{LooseNodes}
use Rattle.lin_field.specs.declared.loose.NodeAddress.{NodeAddress}

-- what is told of nodes outside of their blocks: the lines of Diagnostic_addresses, and the version
-- of a header of LIN 1.x
pub record Elsewhere : Type 0 where
  pub nodes : LooseNodes
  pub lines : List NodeAddress
  pub version : Option (List ℕ)

abbrev pub elsewhere_of : LooseNodes → List NodeAddress → Option (List ℕ) → Elsewhere
elsewhere_of nodes lines version = record { nodes = nodes; lines = lines; version = version }

-- the address of a node's line
abbrev pub line_nad : Elsewhere → Name → Option Number
line_nad e node = option_map (λ l. l.nad) (find (λ l. same_name l.node node) e.lines)

-- the configured address; failing that the line's; failing that the initial one
abbrev pub chosen_nad : Elsewhere → LooseAttributes → Option Number
chosen_nad e a =
    option_or a.block.configured_nad (option_or (line_nad e a.block.node) a.initial_nad)

abbrev pub draft : Elsewhere → LooseAttributes → Attributes
draft e a = record {
  node = a.block.node;
  protocol = option_or a.block.protocol e.version;
  configured_nad =
      if is_loose_responder e.nodes a.block.node then chosen_nad e a else a.block.configured_nad;
  response_error = a.block.response_error;
}

-- what a node without a block is told
abbrev pub told_nad : Elsewhere → Name → Option Number
told_nad e node = if is_loose_responder e.nodes node then line_nad e node else None

abbrev pub new_draft : Elsewhere → Name → Option Attributes
new_draft e node =
    if is_none e.version && is_none (told_nad e node) then None
    else Some (record {
      node = node;
      protocol = e.version;
      configured_nad = told_nad e node;
      response_error = None;
    })

abbrev pub has_block : List LooseAttributes → Name → Bool
has_block blocks node = list_any (λ a. same_name a.block.node node) blocks

abbrev pub as_list : {A : Type 0} → Option A → List A
as_list None = []
as_list (Some x) = x ∷ []

abbrev pub new_drafts : Elsewhere → List LooseAttributes → Name → List Attributes
new_drafts e blocks node = if has_block blocks node then [] else as_list (new_draft e node)

abbrev pub node_blocks : Elsewhere → List LooseAttributes → List LooseAttributes
node_blocks e blocks = filter (λ a. is_loose_node e.nodes a.block.node) blocks

-- the blocks of nodes, and then those for nodes that have none, in the order of the nodes
abbrev pub drafts : Elsewhere → List LooseAttributes → List Attributes
drafts e blocks =
    map (draft e) (node_blocks e blocks)
    ++ flat_map (new_drafts e blocks) (node_list e.nodes)

abbrev pub responder_nad : LooseNodes → Attributes → Option Number
responder_nad nodes a = if is_loose_responder nodes a.node then a.configured_nad else None

abbrev pub responder_nads : LooseNodes → List Attributes → List Number
responder_nads nodes ds = filter_map (responder_nad nodes) ds

abbrev pub is_nad_number : Number → Bool
is_nad_number n = nat_le 1 n.value && nat_le n.value 125

-- an address from 1 to 125 that no earlier number of the text is
abbrev pub good_nad : List Number → Number → Option Number
good_nad nads n = if is_nad_number n && not (is_repeated nads n) then Some n else None

abbrev pub settled_block : List Number → Attributes → Attributes
settled_block nads a = record {
  node = a.node;
  protocol = a.protocol;
  configured_nad = option_and_then (good_nad nads) a.configured_nad;
  response_error = a.response_error;
}

-- 11 BadNad, 12 NadTwice
abbrev pub nad_warning : List Number → Option Number → List Finding
nad_warning nads None = []
nad_warning nads (Some n) =
    when (not (is_nad_number n)) (at_number BadNad n)
    ++ when (is_nad_number n && is_repeated nads n) (at_number NadTwice n)

abbrev pub nad_warnings : List Number → Attributes → List Finding
nad_warnings nads a = nad_warning nads a.configured_nad

abbrev pub settled_draft : Elsewhere → List Number → Attributes → Attributes
settled_draft e nads a = if is_loose_responder e.nodes a.node then settled_block nads a else a

abbrev pub settled_attributes : Elsewhere → List LooseAttributes → List Attributes
settled_attributes e blocks =
    map (settled_draft e (responder_nads e.nodes (drafts e blocks))) (drafts e blocks)

-- whether a responder has no address but its initial one
abbrev pub takes_initial : Elsewhere → LooseAttributes → Bool
takes_initial e a = is_none a.block.configured_nad && is_none (line_nad e a.block.node)

-- 24 InitialNad, where that is the address; 11 BadNad, where it is none and couldn't be one
abbrev pub initial_warning : Bool → Option Number → List Finding
initial_warning is_taken None = []
initial_warning is_taken (Some n) =
    when is_taken (at_number InitialNad n)
    ++ when (not is_taken && not (is_nad_number n)) (at_number BadNad n)

-- 12 NadTwice of the line of a responder that is configured to another address
abbrev pub beside_configured : Option Number → Option Number → List Finding
beside_configured None configured = []
beside_configured (Some n) None = []
beside_configured (Some n) (Some m) =
    when (not (n.value == m.value)) (at_number NadTwice n)

-- of a responder's block
abbrev pub address_warnings : Elsewhere → LooseAttributes → List Finding
address_warnings e a =
    initial_warning (takes_initial e a) a.initial_nad
    ++ beside_configured (line_nad e a.block.node) a.block.configured_nad

-- 1 UnknownName of a block of no node
abbrev pub draft_warnings : Elsewhere → LooseAttributes → List Finding
draft_warnings e a =
    unknown_loose_node e.nodes a.block.node
    ++ (if is_loose_responder e.nodes a.block.node then address_warnings e a else [])

-- whether a number stands at the place of another
abbrev pub is_there : Number → Number → Bool
is_there n m = n.line == m.line && n.column == m.column

-- whether a line isn't the first one of its node
abbrev pub is_later : Elsewhere → NodeAddress → Bool
is_later e l = option_map_or (λ n. not (is_there n l.nad)) (line_nad e l.node) false

-- 1 UnknownName of a line of no node; 12 NadTwice of a responder's later line
abbrev pub line_warning : Elsewhere → NodeAddress → List Finding
line_warning e l =
    unknown_loose_node e.nodes l.node
    ++ when (is_loose_responder e.nodes l.node && is_later e l) (at_number NadTwice l.nad)

abbrev pub line_warnings : Elsewhere → List Finding
line_warnings e = flat_map (line_warning e) e.lines

abbrev pub draft_nad_warnings : Elsewhere → List Number → Attributes → List Finding
draft_nad_warnings e nads a = if is_loose_responder e.nodes a.node then nad_warnings nads a else []

abbrev pub attribute_warnings : Elsewhere → List LooseAttributes → List Finding
attribute_warnings e blocks =
    line_warnings e ++ flat_map (draft_warnings e) blocks
    ++ flat_map (draft_nad_warnings e (responder_nads e.nodes (drafts e blocks))) (drafts e blocks)
