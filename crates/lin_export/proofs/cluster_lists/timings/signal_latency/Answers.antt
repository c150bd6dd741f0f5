use Rattle.std.proofs.Common.{◌≡◌, true, false, sym, ◌∙◌}
use Rattle.std.specs.List.{list_any}
use Rattle.lin_parts.specs.Cluster.{frames_with}
use Rattle.lin_export.specs.Timings.{occurs_by}
use Rattle.lin_export.proofs.Timed.{frames-occur}
use Rattle.lin_export.proofs.cluster_lists.timings.signal_latency.Goals as goal

pub returns-in_ok-new : goal.returns-in_ok-new
returns-in_ok-new c =
    let x = c.args.cluster.now in
    let t = c.args.table in
    let fs = frames_with x c.args.signal in
    let found : list_any (occurs_by c.args.timings.now) fs ≡ true =
    rw c.frames_with-frames.ensures.frames at (sym c.occur.ensures ∙ c.if-occur.true) in
    let there = rw c.frames_with-frames.ensures.frames at c.frames_with-frames.ensures.there in (
      sym (frames-occur x t c.args.timings.now fs c.requires.timings there) ∙ found,
      rw c.frames_with-frames.ensures.frames at c.in_ok-new.ensures,
    )

pub returns-else-occur : goal.returns-else-occur
returns-else-occur c =
    let x = c.args.cluster.now in
    let t = c.args.table in
    let fs = frames_with x c.args.signal in
    let found : list_any (occurs_by c.args.timings.now) fs ≡ false =
    rw c.frames_with-frames.ensures.frames at (sym c.occur.ensures ∙ c.if-occur.false) in
    let there = rw c.frames_with-frames.ensures.frames at c.frames_with-frames.ensures.there in
    sym (frames-occur x t c.args.timings.now fs c.requires.timings there) ∙ found
