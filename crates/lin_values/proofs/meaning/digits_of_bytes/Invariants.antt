use Rattle.std.proofs.Common.{◌*◌, ◌≡◌, length, flat_map, drop}
use Rattle.lin_values.specs.Meaning.{fours}
use Rattle.lin_values.proofs.Digits.{DigitsSoFar}
use Rattle.lin_values.proofs.meaning.digits_of_bytes.Given as goal

abbrev pub invariant-loop-byte : goal.invariant-loop-byte
invariant-loop-byte l = record {
  count : length l.digits.items ≡ 2 * l.byte-index;
  so_far : DigitsSoFar (flat_map (fours 2) l.bytes) l.digits.items (flat_map (fours 2) (drop l.byte-index l.bytes));
}
