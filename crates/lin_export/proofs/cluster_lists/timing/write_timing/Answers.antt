use Rattle.std.proofs.Common.{sym, ◌∙◌, rules}
use Rattle.lin_text.proofs.Growing.{text-written}
use Rattle.lin_text.specs.declared.fault.WriteFailed.{WriteFailed}
use Rattle.lin_export.specs.declared.fault.ExportFault.{ExportFault}
use Rattle.lin_export.proofs.TimingLines.{all-written, some-written}
use Rattle.lin_export.proofs.cluster_lists.timing.write_timing.Goals as goal

pub returns-in_err-finish : goal.returns-in_err-finish
returns-in_err-finish g c =
    let same = sym (c.put_tables.ensures.same ∙ c.new-out.ensures.same) in
    let written = text-written c.new-out.ensures (rw c.as_slice.ensures.value at c.put_tables.ensures) c.finish.ensures in
    some-written c.args.cluster.now c.args.bytes _ _ c.finish.result _ c.in_ok-timings.timings.items c.from_residual-in_err-finish.ensures.0 c.in_ok-timings.ensures (search rules)

pub returns : goal.returns
returns g c =
    let same = sym (c.put_tables.ensures.same ∙ c.new-out.ensures.same) in
    let written = text-written c.new-out.ensures (rw c.as_slice.ensures.value at c.put_tables.ensures) (rw c.in_ok-finish.was at c.finish.ensures) in
    all-written {F = WriteFailed} ExportFault c.args.cluster.now c.args.bytes _ _ c.in_ok-timings.timings.items c.in_ok-timings.ensures (search rules)
