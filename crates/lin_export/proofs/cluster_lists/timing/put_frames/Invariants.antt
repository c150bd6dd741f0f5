use Rattle.std.proofs.Common.{take}
use Rattle.lin_text.specs.Written.{Grows}
use Rattle.lin_export.specs.ListedTiming.{frame_timing_text}
use Rattle.lin_export.specs.Listing.{numbered_lines}
use Rattle.lin_export.proofs.cluster_lists.timing.put_frames.Given as goal

abbrev pub invariant-loop-frame : goal.invariant-loop-frame
invariant-loop-frame g l = Grows g.W.Write.contents l.initial.out l.out (numbered_lines (frame_timing_text l.fn.cluster l.fn.table) 0 (take l.frame l.fn.timings))
