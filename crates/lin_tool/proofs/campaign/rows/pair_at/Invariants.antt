use Rattle.std.proofs.Common.{◌≡◌, ◌+◌, length}
use Rattle.lin_tool.proofs.CampaignRows.{pairs_before}
use Rattle.lin_tool.proofs.campaign.rows.pair_at.Given as goal

abbrev pub invariant-loop-first : goal.invariant-loop-first
invariant-loop-first l = length (pairs_before l.fn.singles l.first) + l.left ≡ l.fn.pair
