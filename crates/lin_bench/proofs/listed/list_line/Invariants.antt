use Rattle.std.proofs.Common.{◌≡◌, ◌+◌, ◌-◌, ℕ, false, get_or, length}
use Rattle.lin_bench.proofs.listed.list_line.Given as goal

-- no flag so far was set
abbrev pub invariant-loop-lines : goal.invariant-loop-lines
invariant-loop-lines l = (k : ℕ) → get_or l.lines.items k false ≡ get_or l.fn.lines.items k false

abbrev pub decreases-loop-lines : goal.decreases-loop-lines
decreases-loop-lines l = l.line + 1 - length l.lines.items
