-- What is wrong with a member of an event-triggered frame, by the first member and by the numbers
-- of the publishers of those before it.
use Rattle.std.specs.Prelude.{◌≡◌, ℕ, List, ◌++◌, Option, Bool, true, not, ◌==◌, ◌&&◌, ◌||◌, false}
use Rattle.std.specs.Option.{option_map_or}
use Rattle.lin_cluster.specs.FindingsNames.{at_name, is_any_frame, when}
use Rattle.lin_cluster.specs.FindingsNodes.{is_node_number}
use Rattle.lin_cluster.specs.Known.{facts_named}
use Rattle.lin_cluster.specs.Models.{differ}
use Rattle.lin_cluster.specs.declared.finding.Finding.{Finding}
use Rattle.lin_cluster.specs.declared.finding.FindingKind.TheVariants.{UnknownName, BadEventFrame}
use Rattle.lin_cluster.specs.declared.finding.FindingKind.TheVariants.{MixedChecksum}
use Rattle.lin_cluster.specs.declared.findings.facts.FrameFacts.{FrameFacts}
use Rattle.lin_parts.specs.declared.description.Description.{Description}
use Rattle.lin_parts.specs.declared.description.Name.{Name}

-- a frame's publisher is added to the nodes that publish the members before, where it is a frame
abbrev pub AddsPublisher : (ℕ → Bool) → Option FrameFacts → (ℕ → Bool) → Type 0
AddsPublisher old m new =
    (q : ℕ) → new q ≡ (old q || option_map_or (λ f. is_node_number q f.publisher) m false)

-- by the first member where that is a frame, and whether a node has published a member before it
abbrev pub is_bad_after : Option FrameFacts → (ℕ → Bool) → FrameFacts → Bool
is_bad_after first published f =
    is_node_number 0 f.publisher
    || option_map_or published f.publisher false
    || option_map_or (λ g. not (g.size == f.size)) first false
    || f.has_front

-- the same of what a member names, if it is known, where that is a frame
abbrev pub is_wrong_after : Option FrameFacts → (ℕ → Bool) → Bool → Option FrameFacts → Bool
is_wrong_after first published known m =
    known && option_map_or (is_bad_after first published) m true

-- another checksum model than the first member
abbrev pub is_mixed_after : Option FrameFacts → Option FrameFacts → Bool
is_mixed_after first m =
    option_map_or (λ f. option_map_or (λ g. differ f.model g.model) first false) m false

abbrev pub in_member_after : Option FrameFacts → (ℕ → Bool) → Bool → Option FrameFacts → Name
    → List Finding
in_member_after first published known m n =
    when (not known) (at_name UnknownName n)
    ++ when (is_wrong_after first published known m) (at_name BadEventFrame n)
    ++ when (is_mixed_after first m) (at_name MixedChecksum n)

-- the same by the member's name
abbrev pub in_member_by : Description → Option FrameFacts → (ℕ → Bool) → Name → List Finding
in_member_by d first published n =
    in_member_after first published (is_any_frame d n) (facts_named d n) n
