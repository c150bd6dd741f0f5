use Rattle.std.proofs.Common.{◌≡◌}
use Rattle.std.specs.Prelude.{filter}
use Rattle.lin_frame.specs.Words.{numbers}
use Rattle.lin_tool.specs.campaign.Rows.{is_drawn}
use Rattle.lin_tool.proofs.campaign.rows.Rows.random_set.Given as goal

abbrev pub invariant-loop-place : goal.invariant-loop-place
invariant-loop-place l = l.places.items ≡ filter (is_drawn l.random l.self.singles l.set) (numbers l.place)
