use Rattle.std.proofs.Common.{◌≡◌, drop}
use Rattle.lin_bench.specs.Parts.{fields_of}
use Rattle.lin_bench.proofs.fields.Fields.skip.Given as goal

abbrev pub invariant-loop : goal.invariant-loop
invariant-loop l = fields_of l.left ≡ drop l.counter (fields_of l.self)
