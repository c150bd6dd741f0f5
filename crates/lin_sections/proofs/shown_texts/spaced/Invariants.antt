use Rattle.std.proofs.Common.{◌≡◌, ◌++◌, length}
use Rattle.lin_sections.specs.Texts.{single_spaced}
use Rattle.lin_sections.proofs.Spacing.{words_behind}
use Rattle.lin_sections.proofs.shown_texts.spaced.Given as goal

abbrev pub invariant-loop-rest : goal.invariant-loop-rest
invariant-loop-rest l = single_spaced l.bytes ≡ l.text.items ++ words_behind l.text.items l.is_behind_gap l.rest

abbrev pub decreases-loop-rest : goal.decreases-loop-rest
decreases-loop-rest l = length l.rest
