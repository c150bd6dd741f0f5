use Rattle.std.proofs.Common.{◌≡◌, ℕ, take}
use Rattle.std.specs.Prelude.{All}
use Rattle.lin_tool.specs.campaign.Summary.{IsLineCount, line_at}
use Rattle.lin_tool.proofs.CampaignCounts.{first_counts}
use Rattle.lin_tool.proofs.campaign.summary.RowCounts.new.Given as goal

abbrev pub invariant-loop-place : goal.invariant-loop-place
invariant-loop-place l = record {
  same : (n : ℕ) → line_at l.lines.items n ≡ first_counts (take l.place l.judgements) n;
  counts : (rows : ℕ) → All (IsLineCount rows) l.lines.items;
}
