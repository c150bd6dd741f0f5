use Rattle.std.proofs.Common.{◌≡◌, drop}
use Rattle.std.specs.List.{list_any}
use Rattle.lin_bench.specs.Strict.{tells_due}
use Rattle.lin_bench.proofs.strict.is_never_due.Given as goal

-- none of the entries so far tells it
abbrev pub invariant-loop-index : goal.invariant-loop-index
invariant-loop-index l =
    list_any (tells_due l.fn.node) (drop l.index l.fn.log.entries) ≡ list_any (tells_due l.fn.node) (drop l.fn.from l.fn.log.entries)
