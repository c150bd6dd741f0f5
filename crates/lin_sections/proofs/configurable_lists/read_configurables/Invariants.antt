use Rattle.std.proofs.Common.{◌≡◌, [], length}
use Rattle.lin_ldf.specs.Symbols.{symbols_in}
use Rattle.lin_ldf.specs.Stream.{start_of}
use Rattle.lin_sections.proofs.ConfiguredSteps.{statements_from}
use Rattle.lin_sections.proofs.configurable_lists.read_configurables.Given as goal

abbrev pub invariant-loop-parser : goal.invariant-loop-parser
invariant-loop-parser l = statements_from (l.parser, l.all.items) ≡ statements_from (symbols_in l.fn.source (start_of l.fn.source).tokens, [])

abbrev pub decreases-loop-parser : goal.decreases-loop-parser
decreases-loop-parser l = length l.parser
