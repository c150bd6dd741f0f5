use Rattle.std.proofs.Common.{◌∙◌, [], ap, append-nil, refl, sym}
use Rattle.lin_sections.specs.FrameTimes.{time_to}
use Rattle.lin_sections.proofs.FrameSteps.{in-table}
use Rattle.lin_sections.proofs.frame_times.table_distance.Goals as goal

pub returns : goal.returns
returns c =
    let es = c.as_slice-entries.result.now in
    in-table c.args.name.now c.args.table.now es c.following.result.longest c.as_slice-entries.ensures (sym c.is_of_text.ensures ∙ c.if-not-is_of_text.false)
    (c.following.ensures.longest es (c.following-once.ensures.next [] refl ∙ ap (time_to c.args.name.now) (append-nil es)))
