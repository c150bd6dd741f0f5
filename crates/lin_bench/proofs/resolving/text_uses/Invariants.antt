use Rattle.std.proofs.Common.{◌≡◌, drop, map}
use Rattle.std.specs.List.{list_any}
use Rattle.lin_bench.specs.Resolved.{text_uses, uses_name}
use Rattle.lin_bench.specs.Resolving.{written_of}
use Rattle.lin_bench.proofs.resolving.text_uses.Given as goal

-- no line so far uses the name
abbrev pub invariant-loop-line : goal.invariant-loop-line
invariant-loop-line l = list_any (uses_name l.name) (map written_of (drop l.line-index l.line-items)) ≡ text_uses l.text l.name
