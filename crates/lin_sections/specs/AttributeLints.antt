-- Warnings of the attributes of nodes, 65 and 68 to 70: of a description in which nothing is wrong, of its
-- text's blocks of attributes, and of the version in its header.
use Rattle.std.specs.Prelude.{◌≡◌, ℕ, ◌&&◌, ◌||◌, List, [], ◌++◌, Bool, false, not, Option, find, codes}
use Rattle.std.specs.Prelude.{flat_map, is_some, nat_eq, nat_lt, if◌then◌else◌, option_and_then}
use Rattle.std.specs.List.{list_any, starts_with}
use Rattle.std.specs.Option.{option_map_or, option_or}
use Rattle.std.specs.Str.{bytes_eq}
use Rattle.indexmap.specs.IndexMap.{IndexMap}
use Rattle.lin_cluster.specs.FindingsNames.{at_name, at_place, is_node, is_responder, same_name}
use Rattle.lin_cluster.specs.FindingsNames.{when}
use Rattle.lin_cluster.specs.LintNames.{has_text}
use Rattle.lin_cluster.specs.Models.{block_named}
use Rattle.lin_cluster.specs.Names.{NumbersFirst}
use Rattle.lin_cluster.specs.declared.finding.Finding.{Finding}
use Rattle.lin_cluster.specs.declared.finding.FindingKind.{FindingKind}
use Rattle.lin_cluster.specs.declared.finding.FindingKind.TheVariants.{AttributeTwice}
use Rattle.lin_cluster.specs.declared.finding.FindingKind.TheVariants.{BadAttribute}
use Rattle.lin_cluster.specs.declared.finding.FindingKind.TheVariants.{NoResponseError}
use Rattle.lin_cluster.specs.declared.finding.FindingKind.TheVariants.{TimeoutTooShort}
use Rattle.lin_ldf.specs.Forms.{front, tail}
use Rattle.lin_ldf.specs.Symbols.{Symbol}
use Rattle.lin_ldf.specs.Words.{is_word_next, place_of}
use Rattle.lin_parts.specs.declared.description.Description.{Description}
use Rattle.lin_parts.specs.declared.description.Name.{Name}
use Rattle.lin_sections.specs.AttributeValues.{is_one_word, is_timing, product_of, milliseconds_in}
use Rattle.lin_sections.specs.FrameTimes.{longest_distance}
use Rattle.lin_values.specs.Warnings.{told_by}
use Rattle.lin_sections.specs.declared.attribute_blocks.NodeAttributes.{NodeAttributes}
use denote.Ref.{Bor}

-- ---- 65 NoResponseError: a responder of LIN 2.x or ISO 17987 publishes a frame, and has no attribute
-- response_error (LIN 2.2A, section 2.7.3)

abbrev pub publishes : Description → Name → Bool
publishes d n = list_any (λ f. bytes_eq f.publisher.text n.text) d.frames

-- the attributes of a node have one with this word
abbrev pub has_attribute : List NodeAttributes → List ℕ → Name → Bool
has_attribute bs w n =
    option_map_or (λ b. list_any (is_word_next w) b.attributes)
    (find (λ b. same_name b.node n) bs) false

-- the version of a node: its LIN_protocol, failing that the header's
abbrev pub version_of : Description → Option (List ℕ) → Name → Option (List ℕ)
version_of d header n = option_or (option_and_then (λ a. a.protocol) (block_named d n)) header

abbrev pub has_status : List ℕ → Bool
has_status version =
    starts_with nat_eq version (codes "2.") || starts_with nat_eq version (codes "ISO17987")

abbrev pub no_response_error : Description → Option (List ℕ) → List NodeAttributes → Name
    → List Finding
no_response_error d header bs n =
    when (publishes d n && not (has_attribute bs (codes "response_error") n)
    && option_map_or has_status (version_of d header n) false) (at_name NoResponseError n)

-- of all responders
abbrev pub no_response_errors : Description → Option (List ℕ) → List NodeAttributes → List Finding
no_response_errors d header bs = flat_map (no_response_error d header bs) d.slaves

-- ---- warnings at the word of an attribute (section 9.2.2.2)

abbrev pub at_word : FindingKind → List Symbol → Finding
at_word kind ts = at_place kind (place_of (front ts))

-- 68 AttributeTwice: the block has the word already

abbrev pub same_word : List Symbol → List Symbol → Bool
same_word ts us = bytes_eq (front us).text (front ts).text

abbrev pub attribute_twice : List (List Symbol) → List Symbol → List Finding
attribute_twice before ts = when (list_any (same_word ts) before) (at_word AttributeTwice ts)

-- the same where a set has the words of the block
abbrev pub twice_in : {V S : Type 0} → IndexMap (Bor (List ℕ)) V S → List Symbol → List Finding
twice_in words ts = when (has_text words (front ts).text) (at_word AttributeTwice ts)

-- 69 BadAttribute: no product identification, no time, or not one word

abbrev pub is_bad_attribute : List Symbol → Bool
is_bad_attribute ts =
    if is_word_next (codes "product_id") ts then not (is_some (product_of ts))
    else if is_timing ts then not (is_some (milliseconds_in ts))
    else is_word_next (codes "response_error") ts && not (is_one_word (tail ts))

abbrev pub bad_attribute : List Symbol → List Finding
bad_attribute ts = when (is_bad_attribute ts) (at_word BadAttribute ts)

-- 70 TimeoutTooShort: a responder with an address gives up a message before its next frame can be there
-- (section 3.2.5)

abbrev pub is_below : ℕ → List Symbol → Bool
is_below longest ts = option_map_or (λ us. nat_lt us longest) (milliseconds_in ts) false

abbrev pub is_too_short : Description → List Symbol → Bool
is_too_short d ts =
    if is_word_next (codes "N_Cr_timeout") ts
    then is_below (longest_distance (codes "MasterReq") d) ts
    else is_word_next (codes "N_As_timeout") ts
    && is_below (longest_distance (codes "SlaveResp") d) ts

abbrev pub has_address : Description → Name → Bool
has_address d n =
    is_responder d n && option_map_or (λ a. is_some a.configured_nad) (block_named d n) false

abbrev pub timeout_too_short : Description → Name → List Symbol → List Finding
timeout_too_short d n ts =
    when (has_address d n && is_too_short d ts) (at_word TimeoutTooShort ts)

-- ---- all of them, of the blocks of nodes

abbrev pub of_attribute : Description → Name → List (List Symbol) → List Symbol → List Finding
of_attribute d n before ts =
    attribute_twice before ts ++ (bad_attribute ts ++ timeout_too_short d n ts)

abbrev pub of_block : Description → NodeAttributes → List Finding
of_block d b = if is_node d b.node then told_by (of_attribute d b.node) [] b.attributes else []

abbrev pub attribute_lints : Description → Option (List ℕ) → List NodeAttributes → List Finding
attribute_lints d header bs =
    no_response_errors d header bs ++ flat_map (of_block d) bs

-- ---- what is kept

-- a set has the words of these attributes
abbrev pub HasWords : {V S : Type 0} → IndexMap (Bor (List ℕ)) V S → List (List Symbol) → Type 0
HasWords words before =
    (q : List ℕ) → has_text words q ≡ list_any (λ us. bytes_eq (front us).text q) before

-- what holds of the attributes whose words a set has
abbrev pub WithWords : {V S : Type 0} → IndexMap (Bor (List ℕ)) V S → (List (List Symbol) → Type 0)
    → Type 0
WithWords words holds = (before : List (List Symbol)) → HasWords words before → holds before

-- a description, and what its nodes are judged by

pub record AreNodeFacts {S T U V : Type 0} (d : Description) (slaves : IndexMap (Bor (List ℕ)) ℕ S)
    (blocks : IndexMap (Bor (List ℕ)) ℕ T) (publishers : IndexMap (Bor (List ℕ)) V U)
    (requests responses : ℕ) : Type 0 where
  pub slave_numbers : NumbersFirst (λ n. n) d.slaves slaves
  pub block_numbers : NumbersFirst (λ a. a.node) d.attributes blocks
  pub publisher_names : (q : List ℕ)
      → has_text publishers q ≡ list_any (λ f. bytes_eq f.publisher.text q) d.frames
  pub requests_us : requests ≡ longest_distance (codes "MasterReq") d
  pub responses_us : responses ≡ longest_distance (codes "SlaveResp") d
