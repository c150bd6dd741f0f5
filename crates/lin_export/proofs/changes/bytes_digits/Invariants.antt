use Rattle.std.proofs.Common.{◌≡◌, ◌*◌, length, take, flat_map}
use Rattle.lin_export.specs.Vcd.{binary}
use Rattle.lin_export.proofs.changes.bytes_digits.Given as goal

abbrev pub invariant-loop-byte : goal.invariant-loop-byte
invariant-loop-byte l = record {
  digits : l.all.items ≡ flat_map (binary 8) (take l.byte-index l.bytes);
  count : length l.all.items ≡ 8 * l.byte-index;
}
