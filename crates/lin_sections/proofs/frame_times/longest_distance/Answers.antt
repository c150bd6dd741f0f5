use Rattle.std.proofs.Common.{◌≡◌, ◌<◌, ◌≤◌, ◌∙◌, ap, flat_map, get_or, length, subst}
use Rattle.std.proofs.lemmas.List.{take_all}
use Rattle.lin_sections.specs.FrameTimes.{longest, table_distances}
use Rattle.lin_sections.proofs.FrameSteps.{table-more}
use Rattle.lin_sections.proofs.frame_times.longest_distance.Goals as goal

pub loop-table-preserved : goal.loop-table-preserved
loop-table-preserved c =
    let ts = c.args.description.now.tables in
    let i = c.loop-table.table-index in
    let t = c.table-item.result in
    let lt : i < length ts = subst (λ us. i < length us) c.tables-table-items.ensures c.loop-table-test.true in
    let is : t ≡ get_or ts i t = subst (λ us. t ≡ get_or us i t) c.tables-table-items.ensures c.table-item.is in
    table-more c.args.name.now ts i t c.loop-table.longest c.max-longest.result c.table_distance.result lt is c.loop-table.invariant c.table_distance.ensures c.max-longest.ensures

pub returns : goal.returns
returns c =
    let all : length c.args.description.now.tables ≤ c.loop-table.table-index = subst (λ us. length us ≤ c.loop-table.table-index) c.tables-table-items.ensures c.loop-table-test.false in
    c.loop-table.invariant ∙ ap (λ us. longest (flat_map (table_distances c.args.name.now) us)) (take_all c.loop-table.table-index c.args.description.now.tables all)
