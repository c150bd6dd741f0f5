use Rattle.std.proofs.Common.{◌≡◌, [], take}
use Rattle.lin_values.specs.Unused.{unused_encoding}
use Rattle.lin_values.specs.Warnings.{told_by}
use Rattle.lin_values.proofs.unused.unordered.Given as goal

abbrev pub invariant-loop-number : goal.invariant-loop-number
invariant-loop-number l = l.found.items ≡ told_by (unused_encoding l.description l.codings) [] (take l.number-counter l.types)
