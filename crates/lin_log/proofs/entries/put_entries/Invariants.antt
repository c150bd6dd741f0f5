use Rattle.std.proofs.Common.{◌≡◌, ◌++◌, ℕ, List, drop, flat_map}
use Rattle.lin_text.specs.Written.{Grows}
use Rattle.lin_log.proofs.Logs.{entry_text}
use Rattle.lin_log.proofs.entries.put_entries.Given as goal

-- what was put, and what the entries say that are left, is what all say
abbrev pub invariant-loop-index : goal.invariant-loop-index
invariant-loop-index g l =
    (put : List ℕ) × Grows g.W.Write.contents l.initial.out l.out put
    × (put ++ flat_map entry_text (drop l.index l.fn.log.entries) ≡ flat_map entry_text (drop l.fn.from l.fn.log.entries))
