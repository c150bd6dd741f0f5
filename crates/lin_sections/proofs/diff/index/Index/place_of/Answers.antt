use Rattle.std.proofs.Common.{◌∙◌}
use Rattle.lin_sections.proofs.diff.index.Index.place_of.Goals as goal

pub returns : goal.returns
returns c = λ ids are. c.copied.ensures ∙ (c.get.ensures.value ∙ are c.args.id.now)
