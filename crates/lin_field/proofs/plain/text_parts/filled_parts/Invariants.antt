use Rattle.std.proofs.Common.{◌≡◌, take, map, filter}
use Rattle.lin_field.specs.Plain.{is_filled_part}
use Rattle.lin_field.proofs.plain.text_parts.filled_parts.Given as goal

abbrev pub invariant-loop-table : goal.invariant-loop-table
invariant-loop-table l =
    map (λ p. p.now) l.kept.items
    ≡ filter is_filled_part (map (λ p. p.now) (take l.table-index l.table-items))
