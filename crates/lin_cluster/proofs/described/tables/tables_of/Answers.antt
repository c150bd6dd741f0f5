use Rattle.std.proofs.Common.{map, ap, ◌∙◌, ◌++◌, ◌∷◌, []}
use Rattle.std.proofs.lemmas.List.{take_all}
use Rattle.lin_cluster.specs.Described.{described_table}
use Rattle.lin_cluster.proofs.FindingsLists.{made_step}
use Rattle.lin_cluster.proofs.described.tables.tables_of.Goals as goal

pub loop-table-preserved : goal.loop-table-preserved
loop-table-preserved c = made_step (described_table c.args.d.now) c.args.tables.now c.loop-table.table-index c.table-item.result c.loop-table.made.items c.push.new.self.items c.loop-table-test.true c.table-item.is c.loop-table.invariant (c.in_ok-push.ensures.items ∙ ap (λ x. c.loop-table.made.items ++ x ∷ []) c.in_ok-table_of.ensures)

pub returns : goal.returns
returns c = c.new.ensures ∙ c.loop-table.invariant ∙ ap (map (described_table c.args.d.now)) (take_all c.loop-table.table-index c.args.tables.now c.loop-table-test.false)
