use Rattle.std.proofs.Common.{◌≡◌, ◌∷◌, [], ◌++◌, Option, None, sym, arith}
use Rattle.std.proofs.lemmas.List.{length-append}
use Rattle.std.specs.Prelude.{slice_index}
use Rattle.lin_parts.specs.Cluster.{frames_with}
use Rattle.lin_export.specs.Timings.{IsSignalLatency}
use Rattle.lin_export.specs.declared.cluster_lists.timings.Latency.{Latency}
use Rattle.lin_export.proofs.Timed.{each-next, latency-alike}
use Rattle.lin_export.proofs.cluster_lists.timings.latencies.Goals as goal

pub loop-signal-preserved : goal.loop-signal-preserved
loop-signal-preserved c =
    let x = c.args.cluster.now in
    let t = c.args.table in
    let s = c.loop-signal.signal in
    let all = c.loop-signal.all.items in
    let one : Option Latency = c.in_ok-latency.latency in
    let items : c.push.new.self.items ≡ all ++ one ∷ [] = c.in_ok-push.ensures.items in
    let many = length-append all (one ∷ []) in
    let same : frames_with x (slice_index c.args.alike.now s) ≡ frames_with x s = c.requires.alike.alike s (omega (arith, c.requires.alike.number)) in
    let its : IsSignalLatency x t s one = latency-alike x t (slice_index c.args.alike.now s) s one same c.in_ok-latency.ensures in
    rw items
    (omega (arith, many, c.loop-signal.invariant.0), each-next (IsSignalLatency x t) None all s one c.loop-signal.invariant.1 (sym c.loop-signal.invariant.0) its)
