use Rattle.std.proofs.Common.{◌≡◌, ◌<◌, ◌^◌, drop}
use Rattle.lin_values.specs.Spelled.{bcd_after}
use Rattle.lin_values.proofs.spelled.coded_number.Given as goal

abbrev pub invariant-loop-digit : goal.invariant-loop-digit
invariant-loop-digit l = record {
  same : bcd_after 0 l.text ≡ bcd_after l.number (drop l.digit-index l.text);
  small : l.number < 16 ^ l.digit-index;
}
