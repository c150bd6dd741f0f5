use Rattle.std.proofs.Common.{◌≡◌, ◌*◌, take, drop, length}
use Rattle.hex.specs.Hex.{decode_pairs}
use Rattle.hex.proofs.Pairs.{prepend}
use Rattle.lin_log.proofs.digits.decoded.Given as goal

abbrev pub invariant-loop-at : goal.invariant-loop-at
invariant-loop-at l = record {
  sized : 2 * length l.bytes.items ≡ length l.digits;
  pairs : decode_pairs 0 l.digits ≡ prepend (take l.at l.bytes.items) (decode_pairs (2 * l.at) (drop (2 * l.at) l.digits));
}
