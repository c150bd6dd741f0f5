use Rattle.std.proofs.Common.{arith}
use Rattle.lin_text.proofs.Growing.{grows-next}
use Rattle.lin_field.specs.Plain.{frame_text}
use Rattle.lin_field.proofs.plain.declaration_lines.put_all_frames.Goals as goal

pub loop-frame-preserved : goal.loop-frame-preserved
loop-frame-preserved g c =
    grows-next frame_text c.args.frames.now c.loop-frame.frame-index c.frame-item.result c.frame-item.is (omega arith) c.loop-frame.invariant c.put_frame.ensures
