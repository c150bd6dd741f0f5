-- Findings 3, bad identifier, and 4, identifier twice (ISO 17987-3, frame header; LIN 2.2A, section
-- 9.2.4).
use Rattle.std.specs.Prelude.{List, ◌++◌, map, count_by, flat_map, Bool, ◌==◌, ◌&&◌, ◌||◌, nat_lt}
use Rattle.std.specs.Prelude.{nat_le}
use Rattle.lin_cluster.specs.FindingsNames.{at_number, when}
use Rattle.lin_cluster.specs.declared.finding.FindingKind.TheVariants.{BadId, IdTwice}
use Rattle.lin_cluster.specs.declared.finding.Finding.{Finding}
use Rattle.lin_parts.specs.declared.description.Description.{Description}
use Rattle.lin_parts.specs.declared.description.Number.{Number}

-- ---- 3 BadId, 4 IdTwice

-- the identifiers of frames and of event-triggered frames, whose sections may stand in either order
abbrev pub ids : Description → List Number
ids d = map (λ f. f.id) d.frames ++ map (λ e. e.id) d.events

abbrev pub bad_id : Number → List Finding
bad_id n = when (nat_lt 59 n.value) (at_number BadId n)

abbrev pub bad_ids : Description → List Finding
bad_ids d = flat_map bad_id (ids d)

-- whether a number stands where another one stands, or before it
abbrev pub is_up_to : Number → Number → Bool
is_up_to x y = nat_lt y.line x.line || (y.line == x.line && nat_le y.column x.column)

-- an identifier that an earlier one has: up to its place more than one has its value
abbrev pub is_repeated : List Number → Number → Bool
is_repeated ns x = nat_lt 1 (count_by (λ y. y.value == x.value && is_up_to x y) ns)

abbrev pub id_twice : List Number → Number → List Finding
id_twice ns x = when (is_repeated ns x) (at_number IdTwice x)

abbrev pub ids_twice : Description → List Finding
ids_twice d = flat_map (id_twice (ids d)) (ids d)
