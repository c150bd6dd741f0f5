use Rattle.std.proofs.Common.{◌≡◌, map, take}
use Rattle.std.specs.Prelude.{zip}
use Rattle.lin_frame.specs.declared.sums.SumKind.{SumKind}
use Rattle.lin_parts.specs.declared.description.Frame.{Frame}
use Rattle.lin_sections.specs.NewNames.{renames_data}
use Rattle.lin_sections.specs.Things.{frame_thing}
use Rattle.lin_sections.proofs.diff.frame_facts.things.Given as goal

abbrev pub invariant-loop-number : goal.invariant-loop-number
invariant-loop-number l =
    l.things.items
    ≡ map (λ (f : Frame × SumKind). frame_thing l.facts.ldf.description.now (renames_data l.renames) f.0 f.1)
    (take l.number (zip l.facts.ldf.description.now.frames (map (λ f. f.model) l.facts.ldf.cluster.now.frames)))
