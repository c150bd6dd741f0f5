use Rattle.lin_sections.proofs.NewNameSteps.{own-if-none}
use Rattle.lin_sections.proofs.diff.new_names.NewNames.of.Goals as goal

pub returns-then-is_empty : goal.returns-then-is_empty
returns-then-is_empty c =
    own-if-none c.args.self.now c.args.name.now (c.is_empty.ensures.0 c.if-is_empty.true)
