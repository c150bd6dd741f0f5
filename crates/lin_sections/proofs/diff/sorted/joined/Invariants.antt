use Rattle.std.proofs.Common.{◌≡◌, take}
use Rattle.lin_sections.specs.FactTexts.{with_spaces}
use Rattle.lin_sections.proofs.diff.sorted.joined.Given as goal

abbrev pub invariant-loop-text : goal.invariant-loop-text
invariant-loop-text l = l.all.items ≡ with_spaces (take l.text-index l.texts)
