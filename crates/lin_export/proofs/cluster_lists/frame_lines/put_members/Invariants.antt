use Rattle.std.proofs.Common.{take, flat_map}
use Rattle.lin_log.specs.Words.{spaced_word}
use Rattle.lin_text.specs.Written.{Grows}
use Rattle.lin_export.specs.ListedFrames.{member_words}
use Rattle.lin_export.proofs.cluster_lists.frame_lines.put_members.Given as goal

abbrev pub invariant-loop-frame : goal.invariant-loop-frame
invariant-loop-frame g l = Grows g.W.Write.contents l.fn.out l.out (flat_map spaced_word (member_words l.fn.cluster (take l.frame-index l.frames)))
