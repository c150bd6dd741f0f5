use Rattle.std.proofs.Common.{◌≡◌, map, take}
use Rattle.lin_sections.specs.Numbering.{repeats, AreTextCounts}
use Rattle.lin_sections.proofs.diff.numbering.repeats.Given as goal

abbrev pub invariant-loop-one : goal.invariant-loop-one
invariant-loop-one g l = record {
  repeats : l.repeats.items ≡ repeats (take l.one-index (map g.T.Repeatable.text_of l.all));
  counts : AreTextCounts (take l.one-index (map g.T.Repeatable.text_of l.all)) l.counts.map;
}
