use Rattle.std.proofs.Common.{◌≡◌, length}
use Rattle.lin_sections.specs.Passed.{behind_block}
use Rattle.lin_sections.proofs.skipping.pass_block.Given as goal

abbrev pub invariant-loop-kind : goal.invariant-loop-kind
invariant-loop-kind l = behind_block l.parser ≡ behind_block l.fn.parser

abbrev pub decreases-loop-kind : goal.decreases-loop-kind
decreases-loop-kind l = length l.parser
