-- How often a frame occurs in a schedule table (ISO 17987-3, schedule tables).
use Rattle.std.specs.Prelude.{ℕ, ◌==◌, Bool, false, count_by}
use Rattle.std.specs.List.{list_any}
use Rattle.lin_parts.specs.Cluster.{event_of, sporadic_of, table_of}
use Rattle.lin_parts.specs.declared.parts.Entry.{Entry}
use Rattle.lin_parts.specs.declared.parts.Entry.TheVariants.{Frame, Sporadic, Event}
use Rattle.lin_parts.specs.declared.parts.Parts.{Parts}

-- whether an entry is the frame's own
abbrev pub is_own : ℕ → Entry → Bool
is_own f (Frame g) = g == f
is_own f entry = false

-- whether it is a sporadic or an event-triggered frame's that lists the frame
abbrev pub is_shared : Parts → ℕ → Entry → Bool
is_shared c f (Sporadic s) = list_any (λ g. g == f) (sporadic_of c s)
is_shared c f (Event e) = list_any (λ g. g == f) (event_of c e).frames
is_shared c f entry = false

-- how many entries of a table are so
abbrev pub own_entries : Parts → ℕ → ℕ → ℕ
own_entries c t f = count_by (λ line. is_own f line.entry) (table_of c t)

abbrev pub shared_entries : Parts → ℕ → ℕ → ℕ
shared_entries c t f = count_by (λ line. is_shared c f line.entry) (table_of c t)
