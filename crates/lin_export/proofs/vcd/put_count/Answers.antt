use Rattle.std.proofs.Common.{ap, ◌∙◌, arith}
use Rattle.std.specs.Prelude.{slice_index}
use Rattle.lin_text.proofs.Growing.{same-growth}
use Rattle.lin_export.specs.Vcd.{waiting_change}
use Rattle.lin_export.proofs.Groups.{groups-one}
use Rattle.lin_export.proofs.vcd.put_count.Goals as goal

pub returns : goal.returns
returns g c = λ count are.
    let x = c.args.cluster.now in
    let few = c.ranges.host.fits in
    groups-one c.args.last.now c.put_stamp.new.last c.args.at (waiting_change x c.args.host (count c.args.host)) c.put_stamp.ensures.text c.put_stamp.ensures.shown
    (same-growth (ap (waiting_change x c.args.host) (ap (slice_index c.args.counts.now) c.from.ensures ∙ are c.args.host (omega arith))) c.put_waiting.ensures)
