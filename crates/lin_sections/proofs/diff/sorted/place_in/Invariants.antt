use Rattle.std.proofs.Common.{◌≡◌, ◌++◌, ◌≤◌, ◌-◌, drop, length, take}
use Rattle.lin_sections.specs.SortedTexts.{insert_text}
use Rattle.lin_sections.proofs.diff.sorted.place_in.Given as goal

abbrev pub invariant-loop-index : goal.invariant-loop-index
invariant-loop-index l =
    record {
      same : insert_text l.texts l.text ≡ take l.index l.texts ++ insert_text (drop l.index l.texts) l.text;
      within : l.index ≤ length l.texts;
    }

abbrev pub decreases-loop-index : goal.decreases-loop-index
decreases-loop-index l = length l.texts - l.index
