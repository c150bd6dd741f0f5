use Rattle.std.proofs.Common.{take}
use Rattle.lin_values.specs.Coded.{named_in}
use Rattle.lin_values.specs.Gathered.{AreNamed}
use Rattle.lin_values.proofs.unused.named_signals.Given as goal

abbrev pub invariant-loop-line : goal.invariant-loop-line
invariant-loop-line l = AreNamed l.types (named_in (take l.line-index l.lines)) l.named.map
