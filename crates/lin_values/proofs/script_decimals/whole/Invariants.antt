use Rattle.std.proofs.Common.{◌≡◌, ◌^◌, ◌<◌, ◌≤◌, ◌-◌, length, drop}
use Rattle.lin_values.specs.Read.{whole_after}
use Rattle.lin_values.proofs.script_decimals.whole.Given as goal

abbrev pub invariant-loop-i : goal.invariant-loop-i
invariant-loop-i l = record { same : whole_after l.n (drop l.i l.text) ≡ whole_after 0 l.text; fits : l.n < 10 ^ 14; within : l.i ≤ length l.text }

abbrev pub decreases-loop-i : goal.decreases-loop-i
decreases-loop-i l = length l.text - l.i
