use Rattle.std.proofs.Common.{length, sym, ap, ◌∙◌}
use Rattle.lin_parts.specs.Cluster.{frame_of}
use Rattle.lin_core.proofs.slots.ClusterFrames.{FrameIs, frame-is}
use Rattle.lin_export.proofs.Lines.{zip-long}
use Rattle.lin_export.proofs.frame_places.place_count.Goals as goal

pub returns : goal.returns
returns c =
    let x = c.args.cluster.now in
    let frame = frame_of x c.args.frame in
    let f : FrameIs x c.args.frame = frame-is x c.args.frame c.sound.ensures.rules c.requires in
    ap length c.frame_signals.ensures ∙ sym (zip-long frame.signals frame.layout.places f.same)
