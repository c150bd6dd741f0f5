use Rattle.std.proofs.Common.{◌∙◌, List, Ok, ap, subst, sym}
use Rattle.std.proofs.lemmas.Result.{err_from_is_err_and}
use Rattle.lin_bench.specs.declared.faults.SlotFault.{SlotFault}
use Rattle.lin_tool.specs.Formats.{export_fault}
use Rattle.lin_tool.specs.campaign.Played.{IsUnfinished, PlaysRow}
use Rattle.lin_tool.specs.campaign.Singles.{faults_at, only_single}
use Rattle.lin_tool.specs.declared.fault.Fault.TheVariants.{OutOfMemory}
use Rattle.lin_tool.proofs.CampaignEnds.{is-row, played_data, row-begun, row-done, row-fault, row-unbegun, text-begins, written-fault}
use Rattle.lin_tool.proofs.CampaignTexts.{when-ok, writes-whole}
use Rattle.lin_tool.proofs.campaign.Campaign.one_row.Goals as goal

pub returns-in_err-places-clause-writes : goal.returns-in_err-places-clause-writes
returns-in_err-places-clause-writes g c = λ ls says.
    let p = err_from_is_err_and c.from_residual.result c.from_residual.ensures.1 in
    rw (p.1, p.2) (row-unbegun c.args.self.now c.args.table.now c.args.cluster ls c.args.number OutOfMemory c.args.counts.now c.args.counts.now (g.W.Write.contents c.args.writer.now) tt)

pub returns-in_err-faults-clause-writes : goal.returns-in_err-faults-clause-writes
returns-in_err-faults-clause-writes g c = λ ls says.
    let p = err_from_is_err_and c.from_residual-in_err-faults.result c.from_residual-in_err-faults.ensures.1 in
    rw (p.1, p.2) (row-unbegun c.args.self.now c.args.table.now c.args.cluster ls c.args.number OutOfMemory c.args.counts.now c.args.counts.now (g.W.Write.contents c.args.writer.now) tt)

pub returns-in_err-play-clause-writes : goal.returns-in_err-play-clause-writes
returns-in_err-play-clause-writes g c = λ ls says.
    let on = c.args.self.now in
    let t = c.args.table.now in
    let fault = c.in_err-play.field-0.0 in
    let faults = c.as_slice-2.ensures.value ∙ c.in_ok-faults.ensures ∙ ap (faults_at t.singles.now) (c.as_slice.ensures.value ∙ c.in_ok-places.ensures) in
    let failed = subst (λ (l : List SlotFault). IsUnfinished on c.args.cluster l ls fault) faults (c.in_err-play.ensures.plays ls says) in
    let p = err_from_is_err_and c.from_residual-in_err-play.result c.from_residual-in_err-play.ensures.1 in
    rw (p.1, p.2)
    (row-unbegun c.args.self.now c.args.table.now c.args.cluster ls c.args.number fault c.args.counts.now c.args.counts.now (g.W.Write.contents c.args.writer.now)
    (row-fault on t c.args.cluster ls c.args.number fault c.requires.row failed))

pub returns-in_err-write_row-clause-writes : goal.returns-in_err-write_row-clause-writes
returns-in_err-write_row-clause-writes g c = λ ls says.
    let on = c.args.self.now in
    let t = c.args.table.now in
    let places = c.in_ok-places.places.items in
    let play = c.in_ok-play.play in
    let fs = c.as_slice-3.result.now in
    let js = c.as_slice-5.result.now in
    let faults = c.as_slice-3.ensures.value ∙ c.in_ok-faults.ensures ∙ ap (faults_at t.singles.now) c.as_slice.ensures.value in
    let single = c.only.ensures ∙ ap (only_single t.singles.now) c.as_slice-4.ensures.value in
    let plays = subst (λ (l : List SlotFault). PlaysRow on c.args.cluster l ls (Ok play)) (c.as_slice-2.ensures.value ∙ sym c.as_slice-3.ensures.value) (c.in_ok-play.ensures.plays ls says) in
    let row = is-row on t c.args.cluster ls c.args.number places fs c.only.result play js c.in_ok-places.ensures faults single c.as_slice-5.ensures plays in
    let shown = played_data c.args.number fs c.only.result play js in
    let p = err_from_is_err_and c.from_residual-in_err-write_row.result c.from_residual-in_err-write_row.ensures.1 in
    rw (p.1, p.2)
    (row-begun on t c.args.cluster play.core.cluster ls c.args.number shown (export_fault c.in_err-write_row.field-0.0) c.args.counts.now c.args.counts.now
    (g.W.Write.contents c.args.writer.now) (g.W.Write.contents c.write_row.new.writer) row c.in_ok-play.ensures.same (text-begins c.write_row.ensures)
    (written-fault on t c.args.cluster ls c.in_err-write_row.field-0.0))

pub returns-in_err-count-clause-writes : goal.returns-in_err-count-clause-writes
returns-in_err-count-clause-writes g c = λ ls says.
    let on = c.args.self.now in
    let t = c.args.table.now in
    let places = c.in_ok-places.places.items in
    let play = c.in_ok-play.play in
    let fs = c.as_slice-3.result.now in
    let js = c.as_slice-5.result.now in
    let faults = c.as_slice-3.ensures.value ∙ c.in_ok-faults.ensures ∙ ap (faults_at t.singles.now) c.as_slice.ensures.value in
    let single = c.only.ensures ∙ ap (only_single t.singles.now) c.as_slice-4.ensures.value in
    let plays = subst (λ (l : List SlotFault). PlaysRow on c.args.cluster l ls (Ok play)) (c.as_slice-2.ensures.value ∙ sym c.as_slice-3.ensures.value) (c.in_ok-play.ensures.plays ls says) in
    let row = is-row on t c.args.cluster ls c.args.number places fs c.only.result play js c.in_ok-places.ensures faults single c.as_slice-5.ensures plays in
    let shown = played_data c.args.number fs c.only.result play js in
    let p = err_from_is_err_and c.from_residual-in_err-count.result c.from_residual-in_err-count.ensures.1 in
    rw (p.1, p.2)
    (row-begun on t c.args.cluster play.core.cluster ls c.args.number shown OutOfMemory c.args.counts.now c.args.counts.now
    (g.W.Write.contents c.args.writer.now) (g.W.Write.contents c.write_row.new.writer) row c.in_ok-play.ensures.same (text-begins c.write_row.ensures) tt)

pub returns-clause-writes : goal.returns-clause-writes
returns-clause-writes g c = λ ls says.
    let on = c.args.self.now in
    let t = c.args.table.now in
    let places = c.in_ok-places.places.items in
    let play = c.in_ok-play.play in
    let fs = c.as_slice-3.result.now in
    let js = c.as_slice-5.result.now in
    let faults = c.as_slice-3.ensures.value ∙ c.in_ok-faults.ensures ∙ ap (faults_at t.singles.now) c.as_slice.ensures.value in
    let single = c.only.ensures ∙ ap (only_single t.singles.now) c.as_slice-4.ensures.value in
    let plays = subst (λ (l : List SlotFault). PlaysRow on c.args.cluster l ls (Ok play)) (c.as_slice-2.ensures.value ∙ sym c.as_slice-3.ensures.value) (c.in_ok-play.ensures.plays ls says) in
    let row = is-row on t c.args.cluster ls c.args.number places fs c.only.result play js c.in_ok-places.ensures faults single c.as_slice-5.ensures plays in
    let shown = played_data c.args.number fs c.only.result play js in
    row-done on t c.args.cluster play.core.cluster c.into_cluster.result ls c.args.number shown c.args.counts.now c.count.new.self
    (g.W.Write.contents c.args.writer.now) (g.W.Write.contents c.write_row.new.writer) row c.in_ok-play.ensures.same
    (writes-whole c.in_ok-write_row.was c.write_row.ensures)
    (λ all before are. when-ok c.count.result tt c.in_ok-count.was c.count.ensures.counts all before fs are)
