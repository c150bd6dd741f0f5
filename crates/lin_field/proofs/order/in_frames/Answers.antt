use Rattle.std.proofs.Common.{ap, sym, ◌∙◌, ◌++◌, Vec, Global}
use Rattle.std.specs.Prelude.{not}
use Rattle.std.specs.List.{flat_map}
use Rattle.lin_cluster.specs.declared.finding.Finding.{Finding}
use Rattle.lin_field.specs.Frames.{is_diagnostic_frame}
use Rattle.lin_field.specs.Order.{frame_order, placed_order}
use Rattle.lin_field.specs.declared.loose.LooseFrame.{LooseFrame}
use Rattle.lin_field.proofs.Walked.{found-kept, filter-drops}
use Rattle.lin_field.proofs.order.in_frames.Goals as goal
use Rattle.lin_field.proofs.order.in_frames.Goals.{then-not-is_diagnostic_frame+in_ok-in_frame, else-not-is_diagnostic_frame}

pub loop-frame-preserved : goal.loop-frame-preserved
loop-frame-preserved c =
    let test = λ (f : LooseFrame). not (is_diagnostic_frame f) in
    let frames = c.args.frames.now in
    let at = c.loop-frame in
    let frame = c.frame-item.result in
    let more = c.if-not-is_diagnostic_frame.found.items in
    elim c.if-not-is_diagnostic_frame.branch [
      | then-not-is_diagnostic_frame+in_ok-in_frame w ↦
          found-kept (frame_order c.args.signals.now) test frames at.frame-index frame at.found.items more c.loop-frame-test.true c.frame-item.is
          (ap not (sym c.is_diagnostic_frame.ensures ∙ w.if-not-is_diagnostic_frame.true)) at.invariant
          (ap (λ (v : Vec Finding Global). v.items) w.found-is ∙ w.in_ok-in_frame.ensures ∙ ap (λ ps. at.found.items ++ flat_map (placed_order c.args.signals.now) ps) w.as_slice.ensures)
      | else-not-is_diagnostic_frame w ↦
          ap (λ (v : Vec Finding Global). v.items) w.found-is ∙ at.invariant
          ∙ ap (flat_map (frame_order c.args.signals.now))
          (sym (filter-drops test frames at.frame-index frame c.loop-frame-test.true c.frame-item.is (ap not (sym c.is_diagnostic_frame.ensures ∙ w.if-not-is_diagnostic_frame.false))))
    ]
