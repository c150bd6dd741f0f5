use Rattle.std.proofs.Common.{◌≡◌, take, false}
use Rattle.std.specs.List.{list_any}
use Rattle.lin_sections.specs.Facts.{overlap}
use Rattle.lin_sections.proofs.diff.fact_pairs.is_taken.Given as goal

abbrev pub invariant-loop-other : goal.invariant-loop-other
invariant-loop-other l = list_any (λ other. overlap other l.bits) (take l.other-index l.taken) ≡ false
