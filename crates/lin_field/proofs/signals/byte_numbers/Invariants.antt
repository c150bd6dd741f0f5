use Rattle.std.proofs.Common.{◌≡◌, ◌++◌, ◌-◌}
use Rattle.lin_field.specs.Signals.{bytes_from, byte_numbers}
use Rattle.lin_field.proofs.signals.byte_numbers.Given as goal

abbrev pub invariant-loop : goal.invariant-loop
invariant-loop l = l.bytes.items ++ bytes_from l.number l.rest (l.count - l.counter) ≡ byte_numbers l.number l.count
