use Rattle.std.proofs.Common.{◌≡◌, length}
use Rattle.lin_ldf.specs.Symbols.{symbols_in}
use Rattle.lin_ldf.specs.Stream.{start_of}
use Rattle.lin_sections.specs.Reading.{found_of, nothing_read}
use Rattle.lin_sections.proofs.ReadingSteps.{statements_from}
use Rattle.lin_sections.proofs.coding_sections.found_in.Given as goal

abbrev pub invariant-loop-parser : goal.invariant-loop-parser
invariant-loop-parser l = statements_from l.most (l.parser, found_of l.found) ≡ statements_from l.most (symbols_in l.fn.source (start_of l.fn.source).tokens, nothing_read)

abbrev pub decreases-loop-parser : goal.decreases-loop-parser
decreases-loop-parser l = length l.parser
