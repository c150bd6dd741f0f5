use Rattle.std.proofs.Common.{◌≡◌, drop}
use Rattle.std.specs.Prelude.{find}
use Rattle.lin_ldf.specs.Words.{is_word_next}
use Rattle.lin_sections.proofs.diff.header_facts.line_with.Given as goal

abbrev pub invariant-loop-line : goal.invariant-loop-line
invariant-loop-line l = find (is_word_next l.word) l.lines ≡ find (is_word_next l.word) (drop l.line-index l.lines)
