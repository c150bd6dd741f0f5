use Rattle.std.proofs.Common.{◌≡◌, ◌++◌, drop}
use Rattle.lin_tool.specs.campaign.Singles.{faults_at}
use Rattle.lin_tool.proofs.campaign.singles.faults_at.Given as goal

abbrev pub invariant-loop-place : goal.invariant-loop-place
invariant-loop-place l = l.faults.items ++ faults_at l.singles (drop l.place-index l.places) ≡ faults_at l.singles l.places
