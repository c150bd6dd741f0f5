use Rattle.std.proofs.Common.{◌≡◌, ◌+◌, ◌-◌, ℕ, length}
use Rattle.std.specs.Prelude.{All}
use Rattle.lin_tool.specs.campaign.Summary.{IsLineCount, line_at}
use Rattle.lin_tool.proofs.campaign.summary.add_lines.Given as goal

abbrev pub invariant-loop-lines : goal.invariant-loop-lines
invariant-loop-lines l = record {
  same : (n : ℕ) → line_at l.lines.items n ≡ line_at l.initial.lines.items n;
  counts : (rows : ℕ) → All (IsLineCount rows) l.initial.lines.items → All (IsLineCount rows) l.lines.items;
}

abbrev pub decreases-loop-lines : goal.decreases-loop-lines
decreases-loop-lines l = l.line + 1 - length l.lines.items
