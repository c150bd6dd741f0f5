use Rattle.std.proofs.Common.{◌≡◌, length}
use Rattle.lin_ldf.specs.Grammar.{extras}
use Rattle.lin_ldf.proofs.parser.Parser.extras.Given as goal

abbrev pub invariant-loop-self : goal.invariant-loop-self
invariant-loop-self l = extras.read l.self ≡ extras.read l.fn.self

abbrev pub decreases-loop-self : goal.decreases-loop-self
decreases-loop-self l = length l.self
