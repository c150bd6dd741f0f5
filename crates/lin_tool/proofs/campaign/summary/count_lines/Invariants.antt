use Rattle.std.proofs.Common.{◌≡◌, ℕ, if◌then◌else◌, take}
use Rattle.std.specs.Prelude.{All}
use Rattle.lin_core.specs.History.{is_in}
use Rattle.lin_tool.specs.campaign.Summary.{IsLineCount, counted_by, line_at}
use Rattle.lin_tool.proofs.campaign.summary.count_lines.Given as goal

abbrev pub invariant-loop-line : goal.invariant-loop-line
invariant-loop-line l = record {
  same : (n : ℕ) → line_at l.lines.items n ≡ (if is_in (take l.line-index l.broken) n then counted_by l.row (line_at l.initial.lines.items n) else line_at l.initial.lines.items n);
  counts : All (IsLineCount l.row) l.lines.items;
}
