use Rattle.std.proofs.Common.{ap, ◌∙◌, ◌++◌, ◌∷◌, [], map}
use Rattle.std.proofs.lemmas.List.{take_all}
use Rattle.lin_cluster.specs.Described.{described_line}
use Rattle.lin_cluster.proofs.FindingsLists.{made_step}
use Rattle.lin_cluster.proofs.described.tables.lines_of.Goals as goal

pub loop-entry-preserved : goal.loop-entry-preserved
loop-entry-preserved c = made_step (described_line c.args.d.now) c.args.entries.now c.loop-entry.entry-index c.entry-item.result c.loop-entry.lines.items c.push.new.self.items c.loop-entry-test.true c.entry-item.is c.loop-entry.invariant (c.in_ok-push.ensures.items ∙ ap (λ e. c.loop-entry.lines.items ++ record { entry = e; delay_us = c.entry-item.result.delay.value } ∷ []) c.entry_of.ensures)

pub returns : goal.returns
returns c = c.new.ensures ∙ c.loop-entry.invariant ∙ ap (map (described_line c.args.d.now)) (take_all c.loop-entry.entry-index c.args.entries.now c.loop-entry-test.false)
