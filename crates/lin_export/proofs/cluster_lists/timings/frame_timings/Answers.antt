use Rattle.std.proofs.Common.{◌≡◌, ◌∷◌, [], ◌++◌, sym, arith}
use Rattle.std.proofs.lemmas.List.{length-append}
use Rattle.lin_export.specs.Timings.{IsFrameTiming, no_frame}
use Rattle.lin_export.specs.declared.cluster_lists.timings.FrameTiming.{FrameTiming}
use Rattle.lin_export.proofs.Timed.{each-next}
use Rattle.lin_export.proofs.cluster_lists.timings.frame_timings.Goals as goal

pub loop-frame-preserved : goal.loop-frame-preserved
loop-frame-preserved c =
    let x = c.args.cluster.now in
    let t = c.args.table in
    let all = c.loop-frame.all.items in
    let one : FrameTiming = c.in_ok-new.field-0 in
    let items : c.push.new.self.items ≡ all ++ one ∷ [] = c.in_ok-push.ensures.items in
    let many = length-append all (one ∷ []) in
    rw items
    (omega (arith, many, c.loop-frame.invariant.0), each-next (IsFrameTiming x t) no_frame all c.loop-frame.frame one c.loop-frame.invariant.1 (sym c.loop-frame.invariant.0) c.in_ok-new.ensures)
