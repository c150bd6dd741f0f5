use Rattle.std.proofs.Common.{◌≡◌, drop}
use Rattle.std.specs.List.{list_any}
use Rattle.lin_bench.specs.Resolved.{file_uses}
use Rattle.lin_bench.proofs.resolving.uses_parameter.Given as goal

-- no file so far uses the name
abbrev pub invariant-loop-file : goal.invariant-loop-file
invariant-loop-file l = list_any (file_uses l.name) (drop l.file-index l.source.files.now) ≡ list_any (file_uses l.name) l.source.files.now
