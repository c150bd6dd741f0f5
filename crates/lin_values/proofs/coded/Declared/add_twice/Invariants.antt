use Rattle.std.proofs.Common.{◌≡◌, ◌++◌, [], take}
use Rattle.lin_values.specs.Warnings.{told_by, type_warning}
use Rattle.lin_values.proofs.coded.Declared.add_twice.Given as goal

abbrev pub invariant-loop-number : goal.invariant-loop-number
invariant-loop-number l = l.warned.items ≡ l.fn.warned.items ++ told_by type_warning [] (take l.number l.self.types)
