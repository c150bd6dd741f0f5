use Rattle.std.proofs.Common.{take, flat_map}
use Rattle.lin_text.specs.Written.{Grows}
use Rattle.lin_tool.specs.Page.{look_count}
use Rattle.lin_tool.proofs.page.summary.put_looks.Given as goal

abbrev pub invariant-loop-look : goal.invariant-loop-look
invariant-loop-look g l = Grows g.W.Write.contents l.initial.out l.out (flat_map (look_count l.log.entries) (take l.look-index l.look-items))
