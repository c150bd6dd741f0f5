use Rattle.std.proofs.Common.{◌≡◌, take}
use Rattle.std.specs.List.{flat_map, filter}
use Rattle.std.specs.Prelude.{not}
use Rattle.lin_field.specs.Frames.{is_diagnostic_frame}
use Rattle.lin_field.specs.Order.{frame_order}
use Rattle.lin_field.proofs.order.in_frames.Given as goal

abbrev pub invariant-loop-frame : goal.invariant-loop-frame
invariant-loop-frame l =
    l.found.items
    ≡ flat_map (frame_order l.signals) (filter (λ f. not (is_diagnostic_frame f)) (take l.frame-index l.frames))
