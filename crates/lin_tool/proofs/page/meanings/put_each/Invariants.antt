use Rattle.std.proofs.Common.{flat_map}
use Rattle.lin_frame.specs.Words.{numbers}
use Rattle.lin_text.specs.Written.{Grows}
use Rattle.lin_tool.specs.PageMeanings.{meaning_lines}
use Rattle.lin_tool.proofs.page.meanings.put_each.Given as goal

abbrev pub invariant-loop-signal : goal.invariant-loop-signal
invariant-loop-signal g l = Grows g.W.Write.contents l.initial.out l.out (flat_map (meaning_lines l.coded) (numbers l.signal))
