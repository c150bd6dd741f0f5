use Rattle.std.proofs.Common.{◌≡◌, ◌++◌}
use Rattle.std.specs.List.{filter_map, flat_map}
use Rattle.lin_field.specs.Frames.{diagnostic_signals, kept_frame, frame_warnings}
use Rattle.lin_field.proofs.frames.settle_frames.Given as goal

abbrev pub invariant-loop-frame : goal.invariant-loop-frame
invariant-loop-frame l = record {
  settled : l.settled.items ++ filter_map kept_frame l.frame-iterator.rest.items ≡ filter_map kept_frame l.fn.frames;
  elsewhere : l.elsewhere.items ++ flat_map diagnostic_signals l.frame-iterator.rest.items ≡ flat_map diagnostic_signals l.fn.frames;
  warned : l.warned.items ++ flat_map (frame_warnings l.is_old) l.frame-iterator.rest.items ≡ l.fn.warned.items ++ flat_map (frame_warnings l.is_old) l.fn.frames;
}
