use Rattle.std.proofs.Common.{◌≡◌, ◌-◌, ◌^◌, ◌<◌, drop, length}
use Rattle.lin_values.specs.Meaning.{wide_number}
use Rattle.lin_values.proofs.meaning.wide_number.Given as goal

abbrev pub invariant-loop-place : goal.invariant-loop-place
invariant-loop-place l = record {
  so_far : l.number ≡ wide_number (drop (length l.bytes - l.place) l.bytes);
  small : l.number < 256 ^ l.place;
}
