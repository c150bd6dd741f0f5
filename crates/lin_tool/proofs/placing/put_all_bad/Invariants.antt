use Rattle.std.proofs.Common.{take, flat_map}
use Rattle.lin_text.specs.Written.{Grows}
use Rattle.lin_tool.specs.Placing.{placed_bad}
use Rattle.lin_tool.proofs.placing.put_all_bad.Given as goal

abbrev pub invariant-loop-one : goal.invariant-loop-one
invariant-loop-one g l = Grows g.W.Write.contents l.initial.out l.out (flat_map (placed_bad l.names.script.now l.names.files.now) (take l.one-index l.bad))
