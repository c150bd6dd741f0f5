use Rattle.std.proofs.Common.{arith}
use Rattle.lin_text.proofs.Growing.{grows-nothing}
use Rattle.lin_log.specs.Words.{byte_word}
use Rattle.lin_log.proofs.Ends.{grows-copied}
use Rattle.lin_log.proofs.pattern.put_pattern_bytes.Goals as goal

pub loop-byte-init : goal.loop-byte-init
loop-byte-init g c = grows-nothing c.args.out.now

pub loop-byte-preserved : goal.loop-byte-preserved
loop-byte-preserved g c =
    grows-copied byte_word c.args.bytes.now c.loop-byte.byte-index _ (omega arith) c.loop-byte.invariant c.put_pattern_byte.ensures
