use Rattle.std.proofs.Common.{ℕ, List, ap, arith}
use Rattle.lin_text.proofs.Growing.{grows-nothing, same-growth}
use Rattle.lin_export.specs.ListedTiming.{table_text}
use Rattle.lin_export.specs.Timings.{IsTiming}
use Rattle.lin_export.specs.declared.cluster_lists.timings.TableTiming.{TableTiming}
use Rattle.lin_export.proofs.NumberedLines.{lines-next}
use Rattle.lin_export.proofs.Timed.{timing-read}
use Rattle.lin_export.proofs.cluster_lists.timing.put_tables.Goals as goal

pub put_table-requires-clause-frames : goal.put_table-requires-clause-frames
put_table-requires-clause-frames g c =
    let its : IsTiming c.args.cluster.now c.loop-table.table c.args.bytes c.index-timings-table.result =
    timing-read c.args.cluster.now c.args.bytes c.loop-table.table c.args.timings.now _ c.requires.timings (omega (arith, c.requires.timings.0)) c.index-timings-table.is in
    its.frames.number

pub put_table-requires-clause-signals : goal.put_table-requires-clause-signals
put_table-requires-clause-signals g c =
    let its : IsTiming c.args.cluster.now c.loop-table.table c.args.bytes c.index-timings-table.result =
    timing-read c.args.cluster.now c.args.bytes c.loop-table.table c.args.timings.now _ c.requires.timings (omega (arith, c.requires.timings.0)) c.index-timings-table.is in
    its.number

pub loop-table-init : goal.loop-table-init
loop-table-init g c = grows-nothing c.args.out.now

pub loop-table-preserved : goal.loop-table-preserved
loop-table-preserved g c =
    let text : ℕ → TableTiming → List ℕ = table_text c.args.cluster.now c.args.bytes in
    let i = c.loop-table.table in
    let put = same-growth (ap (text i) c.index-timings-table.is) c.put_table.ensures in
    lines-next text c.args.timings.now i c.index-timings-table.result (omega (arith, c.requires.timings.0)) c.loop-table.invariant put
