use Rattle.lin_text.proofs.Growing.{grows-nothing}
use Rattle.lin_export.specs.ListedMaps.{bits_line}
use Rattle.lin_export.proofs.ListedLines.{grows-number}
use Rattle.lin_export.proofs.cluster_lists.maps.put_bytes.Goals as goal

pub loop-byte-init : goal.loop-byte-init
loop-byte-init g c = grows-nothing c.args.out.now

pub loop-byte-preserved : goal.loop-byte-preserved
loop-byte-preserved g c = grows-number (bits_line c.args.layout.now c.args.frame) c.loop-byte.byte c.loop-byte.invariant c.put_bits.ensures
