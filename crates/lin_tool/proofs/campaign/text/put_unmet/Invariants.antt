use Rattle.std.proofs.Common.{take, flat_map, ◌++◌}
use Rattle.std.specs.Prelude.{codes}
use Rattle.std.specs.Fmt.{decimal}
use Rattle.lin_text.specs.Written.{Grows}
use Rattle.lin_tool.proofs.campaign.text.put_unmet.Given as goal

abbrev pub invariant-loop-line : goal.invariant-loop-line
invariant-loop-line g l = Grows g.W.Write.contents l.initial.out l.out (flat_map (λ n. codes " " ++ decimal n) (take l.line-index l.lines))
