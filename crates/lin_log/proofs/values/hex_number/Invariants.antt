use Rattle.std.proofs.Common.{◌≡◌, ◌^◌, ◌<◌, ◌≤◌, drop, length}
use Rattle.lin_log.specs.Said.{hex_after}
use Rattle.lin_log.proofs.values.hex_number.Given as goal

abbrev pub invariant-loop-digit : goal.invariant-loop-digit
invariant-loop-digit l = record {
  left : hex_after l.number (drop l.digit-index l.digits) ≡ hex_after 0 l.digits;
  bound : l.number < 16 ^ l.digit-index;
  few : length l.digits ≤ 4;
}
