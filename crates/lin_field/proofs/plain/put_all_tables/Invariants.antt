use Rattle.std.proofs.Common.{List, ℕ, map, take}
use Rattle.std.specs.Prelude.{zip}
use Rattle.lin_parts.specs.declared.description.Table.{Table}
use Rattle.lin_text.specs.Written.{Grows}
use Rattle.lin_field.specs.Plain.{table_text_by, with_parts}
use Rattle.lin_field.proofs.plain.put_all_tables.Given as goal

abbrev pub invariant-loop-number : goal.invariant-loop-number
invariant-loop-number g l =
    Grows g.W.Write.contents l.initial.out l.out
    (with_parts (λ (p : Table × List ℕ). table_text_by l.source p.0 p.1) (map (λ p. p.now) l.named.parts.now) 0 (take l.number (zip l.named.tables.now l.named.names.now)))
