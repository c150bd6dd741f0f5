use Rattle.std.proofs.Common.{sym, arith}
use Rattle.hex.specs.Hex.{encode_with}
use Rattle.lin_text.proofs.Digits.{encode-next}
use Rattle.lin_text.proofs.Growing.{grows-more, grows-nothing, same-growth}
use Rattle.lin_text.proofs.buffered.TextWriter.put_hex_of_few.Goals as goal

pub loop-byte-init : goal.loop-byte-init
unfolding encode_with
loop-byte-init g c = grows-nothing c.args.self.now

pub loop-byte-preserved : goal.loop-byte-preserved
loop-byte-preserved g c =
    same-growth (sym (encode-next c.args.bytes.now c.loop-byte.byte-index (omega arith))) (grows-more c.loop-byte.invariant c.put_hex_byte.ensures)
