use Rattle.std.proofs.Common.{◌≡◌, ◌++◌, List, ℕ, drop}
use Rattle.lin_text.specs.Written.{Grows}
use Rattle.lin_field.specs.Plain.{table_entries_text}
use Rattle.lin_field.proofs.plain.declaration_lines.put_entries.Given as goal

-- what was put, and what is left of the entries and of their tokens
abbrev pub invariant-loop-entry : goal.invariant-loop-entry
invariant-loop-entry g l =
    (done : List ℕ) × Grows g.W.Write.contents l.initial.out l.out done
    × (table_entries_text l.source l.entries l.tokens ≡ done ++ table_entries_text l.source (drop l.entry-index l.entries) l.rest)
