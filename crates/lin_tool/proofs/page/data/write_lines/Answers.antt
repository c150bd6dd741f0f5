use Rattle.std.proofs.Common.{refl}
use Rattle.lin_export.specs.ListedFrames.{frame_listing}
use Rattle.lin_export.specs.ListedSlots.{slots}
use Rattle.lin_export.proofs.Puttings.{writes-more, written-short}
use Rattle.lin_tool.proofs.page.data.write_lines.Goals as goal

pub returns-in_err-write_list : goal.returns-in_err-write_list
returns-in_err-write_list g c =
    let x = c.args.cluster.now in
    let failed = c.from_residual.ensures.0 in
    written-short (slots x) failed refl (written-short (frame_listing x) failed refl c.write_list.ensures)

pub returns-in_err-write_frames : goal.returns-in_err-write_frames
returns-in_err-write_frames g c =
    let first = rw c.in_ok-write_list.was at c.write_list.ensures in
    written-short (slots c.args.cluster.now) c.from_residual-in_err-write_frames.ensures.0 refl (writes-more first c.write_frames.ensures)

pub returns : goal.returns
returns g c =
    let first = rw c.in_ok-write_list.was at c.write_list.ensures in
    let second = rw c.in_ok-write_frames.was at c.write_frames.ensures in
    writes-more (writes-more first second) c.write_slots.ensures
