use Rattle.std.proofs.Common.{◌≡◌, map, take}
use Rattle.lin_bench.specs.Fields.{tab_as_space}
use Rattle.lin_bench.proofs.fields.untabbed.Given as goal

abbrev pub invariant-loop-byte : goal.invariant-loop-byte
invariant-loop-byte l = l.text.items ≡ map tab_as_space (take l.byte-index l.line)
