use Rattle.std.proofs.Common.{◌≡◌, ◌++◌, drop, length, take}
use Rattle.lin_sections.specs.Numbering.{all_numbered}
use Rattle.lin_sections.proofs.diff.numbering.numbered.Given as goal

abbrev pub invariant-loop-place : goal.invariant-loop-place
invariant-loop-place g l = record {
  items : l.all.items ≡ take l.place (all_numbered g.T.Repeatable.text_of g.T.Repeatable.with_text l.fn.all.items) ++ drop l.place l.fn.all.items;
  size : length l.all.items ≡ length l.fn.all.items;
}
