use Rattle.std.proofs.Common.{◌≡◌, ◌∷◌, [], ◌++◌, refl, arith}
use Rattle.std.proofs.lemmas.List.{length-append}
use Rattle.lin_export.specs.Timings.{none}
use Rattle.lin_export.specs.declared.cluster_lists.timings.TableTiming.{TableTiming}
use Rattle.lin_export.proofs.Timed.{timings-next}
use Rattle.lin_export.proofs.cluster_lists.timings.table_timings.Goals as goal

pub loop-table-init : goal.loop-table-init
loop-table-init c = rw c.new-all.ensures.items (refl, none 0)

pub loop-table-preserved : goal.loop-table-preserved
loop-table-preserved c =
    let all = c.loop-table.all.items in
    let one : TableTiming = c.in_ok-timing.timing in
    let items : c.push.new.self.items ≡ all ++ one ∷ [] = c.in_ok-push.ensures.items in
    let many = length-append all (one ∷ []) in
    rw items (
      omega (arith, many, c.loop-table.invariant.0),
      timings-next c.args.cluster.now c.args.bytes 0 c.loop-table.table all one c.loop-table.invariant.1 (omega (arith, c.loop-table.invariant.0)) c.in_ok-timing.ensures,
    )
