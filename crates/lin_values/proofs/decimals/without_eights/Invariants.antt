use Rattle.std.proofs.Common.{◌≡◌, ◌*◌, ◌-◌, ◌^◌, ◌≤◌, nat_lt}
use Rattle.lin_values.specs.Value.{without_zeros}
use Rattle.lin_values.proofs.decimals.without_eights.Given as goal

abbrev pub invariant-loop-left : goal.invariant-loop-left
invariant-loop-left l = record {
  same : l.rest * 10 ^ (24 - l.left) ≡ l.digits * 10 ^ (24 - l.places);
  few : l.left ≤ l.places;
  exact : without_zeros l.rest l.left ≡ without_zeros l.digits l.places;
  some : nat_lt 0 l.rest ≡ nat_lt 0 l.digits;
}

abbrev pub decreases-loop-left : goal.decreases-loop-left
decreases-loop-left l = l.left
