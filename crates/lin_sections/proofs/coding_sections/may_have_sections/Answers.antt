use Rattle.lin_ldf.specs.Symbols.{symbols_in}
use Rattle.lin_sections.proofs.UnmentionedSections.{none-coded}
use Rattle.lin_sections.proofs.coding_sections.may_have_sections.Goals as goal

pub returns-else-mentions : goal.returns-else-mentions
returns-else-mentions c = λ ts none most. none-coded most (symbols_in c.args.source.now ts) (c.mentions.ensures ts c.if-mentions.false) (c.mentions-else-mentions.ensures ts none)
