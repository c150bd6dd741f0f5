use Rattle.std.proofs.Common.{◌≡◌, ◌++◌, take}
use Rattle.std.specs.List.{flat_map}
use Rattle.lin_field.specs.Attributes.{line_warning}
use Rattle.lin_field.proofs.attributes.warn_of_lines.Given as goal

abbrev pub invariant-loop-line : goal.invariant-loop-line
invariant-loop-line l = l.warned.items ≡ l.fn.warned.items ++ flat_map (line_warning l.told) (take l.line-index l.line-items)
