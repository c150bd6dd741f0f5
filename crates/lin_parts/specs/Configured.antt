-- A cluster whose configuration entries carry their requests (LIN 2.2A, section 9.2.5).
use Rattle.std.specs.Prelude.{ℕ, List, [], ◌∷◌, Option, Some}
use Rattle.lin_parts.specs.declared.parts.Entry.{Entry}
use Rattle.lin_parts.specs.declared.parts.Entry.TheVariants.{Fixed, Quiet}
use Rattle.lin_parts.specs.declared.parts.Identity.{Identity}
use Rattle.lin_parts.specs.declared.parts.Line.{Line}
use Rattle.lin_parts.specs.declared.parts.Table.{Table}
use Rattle.lin_parts.specs.declared.parts.Parts.{Parts}

-- items that are changed by those at the same place; an item without one stays
abbrev pub changed_items : {X : Type 0} → {Y : Type 0} → (X → Y → X) → List X → List Y → List X
changed_items f [] ys = []
changed_items f (x ∷ xs) [] = x ∷ xs
changed_items f (x ∷ xs) (y ∷ ys) = f x y ∷ changed_items f xs ys

-- a silent entry carries the request that is given for it
abbrev pub entry_with : Entry → Option (List ℕ) → Entry
entry_with Quiet (Some request) = Fixed request
entry_with entry request = entry

abbrev pub line_with : Line → Option (List ℕ) → Line
line_with line request = record line { entry = entry_with line.entry request }

abbrev pub table_with : Table → List (Option (List ℕ)) → Table
table_with table requests = record table { lines = changed_items line_with table.lines requests }

-- the same cluster, with what is known of its responders, and with requests for the entries of its
-- tables
abbrev pub with_configuration : Parts → List Identity → List (List (Option (List ℕ))) → Parts
with_configuration c identities requests = record c {
  tables = changed_items table_with c.tables requests;
  identities = identities;
}
