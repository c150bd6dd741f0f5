use Rattle.std.proofs.Common.{◌≡◌, take}
use Rattle.lin_field.specs.Plain.{without_points}
use Rattle.lin_field.proofs.plain.table_names.without_points.Given as goal

abbrev pub invariant-loop-byte : goal.invariant-loop-byte
invariant-loop-byte l = l.text.items ≡ without_points (take l.byte-index l.name)
