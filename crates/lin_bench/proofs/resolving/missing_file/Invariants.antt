use Rattle.std.proofs.Common.{◌≡◌, length}
use Rattle.lin_bench.specs.Files.{source_data}
use Rattle.lin_bench.specs.Resolved.{first_missing, missing_file}
use Rattle.lin_bench.specs.Resolving.{items_left}
use Rattle.lin_bench.proofs.resolving.missing_file.Given as goal

-- no file so far was missing
abbrev pub invariant-loop-script : goal.invariant-loop-script
invariant-loop-script l = first_missing l.source.files.now (items_left l.script) ≡ missing_file (source_data l.source)

abbrev pub decreases-loop-script : goal.decreases-loop-script
decreases-loop-script l = length (items_left l.script)
