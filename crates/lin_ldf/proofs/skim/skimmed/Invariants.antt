use Rattle.std.proofs.Common.{◌≡◌, ◌+◌, ◌-◌, ◌≤◌, drop, length}
use Rattle.lin_ldf.specs.Skimming.{Skims}
use Rattle.lin_ldf.proofs.skim.skimmed.Given as goal

-- all before what is left was read over
abbrev pub invariant-loop-end : goal.invariant-loop-end
invariant-loop-end l = record {
  skims : Skims l.end l.depth l.text (length l.text - length l.rest) l.open;
  rest : l.rest ≡ drop (length l.text - length l.rest) l.text;
  short : length l.rest ≤ length l.text;
  few : l.open + length l.rest ≤ l.depth + length l.text;
}

abbrev pub decreases-loop-end : goal.decreases-loop-end
decreases-loop-end l = length l.rest
