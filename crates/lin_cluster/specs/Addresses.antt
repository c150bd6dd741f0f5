-- Findings 11, bad address, and 12, address twice (LIN 2.2A, section 9.2.2.2).
use Rattle.std.specs.Prelude.{ℕ, List, take, flat_map, filter_map, Option, None, not, if◌then◌else◌}
use Rattle.std.specs.Prelude.{◌==◌, ◌&&◌, nat_le}
use Rattle.std.specs.List.{list_any, enumerate_from}
use Rattle.lin_cluster.specs.FindingsNames.{at_number, when, is_responder}
use Rattle.lin_cluster.specs.declared.finding.FindingKind.TheVariants.{BadNad, NadTwice}
use Rattle.lin_cluster.specs.declared.finding.Finding.{Finding}
use Rattle.lin_parts.specs.declared.description.Attributes.{Attributes}
use Rattle.lin_parts.specs.declared.description.Description.{Description}
use Rattle.lin_parts.specs.declared.description.Number.{Number}

-- ---- 11 BadNad, 12 NadTwice

-- the address of a responder's block
abbrev pub block_address : Description → Attributes → Option Number
block_address d a = if is_responder d a.node then a.configured_nad else None

abbrev pub addresses : Description → List Number
addresses d = filter_map (block_address d) d.attributes

abbrev pub bad_nad : Number → List Finding
bad_nad n = when (not (nat_le 1 n.value && nat_le n.value 125)) (at_number BadNad n)

abbrev pub bad_nads : Description → List Finding
bad_nads d = flat_map bad_nad (addresses d)

-- the address with this number, which an earlier one is
abbrev pub nad_twice : List Number → ℕ × Number → List Finding
nad_twice ns ix =
    when (list_any (λ y. y.value == ix.1.value) (take ix.0 ns)) (at_number NadTwice ix.1)

abbrev pub nads_twice : Description → List Finding
nads_twice d = flat_map (nad_twice (addresses d)) (enumerate_from 0 (addresses d))
