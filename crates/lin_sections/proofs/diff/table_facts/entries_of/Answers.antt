use Rattle.std.proofs.Common.{ap, ◌∙◌}
use Rattle.lin_sections.specs.NewNames.{renames_data}
use Rattle.lin_sections.specs.Things.{entry_facts, entry_fact}
use Rattle.lin_sections.proofs.TableSteps.{entries-more}
use Rattle.lin_sections.proofs.diff.table_facts.entries_of.Goals as goal

pub loop-position-preserved : goal.loop-position-preserved
loop-position-preserved c =
    let r = renames_data c.args.renames.now in
    entries-more r c.args.entries.now c.loop-position.position c.index-entries-position.result c.loop-position.line c.pass_line.new.parser c.in_ok-entry_fact.field-0 c.loop-position.found.items c.push.new.self.items
    (entry_facts r 0 c.args.lines c.args.entries.now) c.loop-position-test.true c.index-entries-position.is c.pass_line.ensures
    (c.in_ok-entry_fact.ensures ∙ ap (λ w. entry_fact w c.loop-position.position c.index-entries-position.result) c.in_ok-word.ensures)
    c.in_ok-push.ensures.items c.loop-position.invariant
