use Rattle.lin_sections.proofs.FrameSteps.{Follows}
use Rattle.lin_sections.proofs.frame_times.following.Given as goal

abbrev pub invariant-loop-left : goal.invariant-loop-left
invariant-loop-left l = Follows l.name l.entries l.next l.left l.found.next l.found.longest

abbrev pub decreases-loop-left : goal.decreases-loop-left
decreases-loop-left l = l.left
