-- Finding 17, limit passed: more than this project counts or times.
use Rattle.std.specs.Prelude.{List, [], ◌∷◌, ◌++◌, slice_get, Option, Some, None, not, nat_lt}
use Rattle.lin_cluster.specs.FindingsNames.{at_name, at_number, when}
use Rattle.lin_cluster.specs.Slots.{is_speed}
use Rattle.lin_cluster.specs.declared.finding.FindingKind.TheVariants.{LimitPassed}
use Rattle.lin_cluster.specs.declared.finding.Finding.{Finding}
use Rattle.lin_parts.specs.declared.description.Description.{Description}
use Rattle.lin_parts.specs.declared.description.Name.{Name}
use Rattle.lin_parts.specs.declared.description.Number.{Number}
use Rattle.lin_parts.specs.declared.description.Table.{Table}
use Rattle.lin_parts.specs.declared.description.TableEntry.{TableEntry}

-- ---- 17 LimitPassed

-- the name of the first item after as many as there may be
abbrev pub past : {A : Type 0} → (A → Name) → Option A → List Finding
past name None = []
past name (Some x) = at_name LimitPassed (name x) ∷ []

-- a time in microseconds above its limit
abbrev pub too_long : Number → List Finding
too_long n = when (nat_lt 1000000000 n.value) (at_number LimitPassed n)

abbrev pub long_delay : TableEntry → List Finding
long_delay e = too_long e.delay

abbrev pub long_table : Table → List Finding
long_table t = past (λ e. e.name) (slice_get t.entries 1024)

abbrev pub responder_limits : Description → List Finding
responder_limits d = past (λ n. n) (slice_get d.slaves 15)

abbrev pub frame_limits : Description → List Finding
frame_limits d =
    past (λ s. s.name) (slice_get d.signals 1024) ++ past (λ f. f.name) (slice_get d.frames 60)
    ++ past (λ f. f.name) (slice_get d.sporadic 256) ++ past (λ e. e.name) (slice_get d.events 60)

abbrev pub time_limits : Description → List Finding
time_limits d =
    when (not (is_speed d.speed.value)) (at_number LimitPassed d.speed) ++ too_long d.time_base
    ++ too_long d.jitter

abbrev pub limits_passed : Description → List Finding
limits_passed d =
    responder_limits d ++ frame_limits d ++ past (λ t. t.name) (slice_get d.tables 256)
    ++ time_limits d
