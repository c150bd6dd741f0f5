use Rattle.std.proofs.Common.{◌≡◌, take}
use Rattle.lin_sections.specs.SortedTexts.{sorted_texts}
use Rattle.lin_sections.specs.NewNames.{renames_data}
use Rattle.lin_sections.specs.Things.{member_names}
use Rattle.lin_sections.proofs.diff.frame_facts.sorted_names.Given as goal

abbrev pub invariant-loop-member : goal.invariant-loop-member
invariant-loop-member l =
    l.names ≡ sorted_texts (member_names (renames_data l.renames) (take l.member-index l.members))
