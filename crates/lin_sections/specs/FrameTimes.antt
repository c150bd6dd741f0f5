-- How far apart the frames of a name are in a schedule table (LIN 2.2A, section 9.2.5): a table begins again
-- behind its last entry.
use Rattle.std.specs.Prelude.{ℕ, ◌+◌, ◌&&◌, List, [], ◌∷◌, ◌++◌, Bool, not, max, flat_map}
use Rattle.std.specs.Prelude.{if◌then◌else◌}
use Rattle.std.specs.Str.{bytes_eq}
use Rattle.lin_cluster.specs.LintNames.{is_of_text}
use Rattle.lin_parts.specs.declared.description.Description.{Description}
use Rattle.lin_parts.specs.declared.description.Table.{Table}
use Rattle.lin_parts.specs.declared.description.TableEntry.{TableEntry}

-- an entry for the frame of this name, and not for the configuration of nodes
abbrev pub is_frame_entry : List ℕ → TableEntry → Bool
is_frame_entry w e = not e.has_group && bytes_eq e.name.text w

-- until the end of the first of these entries for the frame, in microseconds; until the end of all if there
-- is none
abbrev pub time_to : List ℕ → List TableEntry → ℕ
time_to w [] = 0
time_to w (e ∷ es) = e.delay.value + (if is_frame_entry w e then 0 else time_to w es)

-- from the end of each entry for the frame to the end of the next one, where others follow these
abbrev pub distances : List ℕ → List TableEntry → List TableEntry → List ℕ
distances w [] others = []
distances w (e ∷ es) others =
    if is_frame_entry w e then time_to w (es ++ others) ∷ distances w es others else distances w es others

-- in a table of the text
abbrev pub table_distances : List ℕ → Table → List ℕ
table_distances w t = if is_of_text t then distances w t.entries t.entries else []

abbrev pub longest : List ℕ → ℕ
longest [] = 0
longest (n ∷ ns) = max n (longest ns)

-- the longest in any table of the text; 0 if the frame is in none
abbrev pub longest_distance : List ℕ → Description → ℕ
longest_distance w d = longest (flat_map (table_distances w) d.tables)
