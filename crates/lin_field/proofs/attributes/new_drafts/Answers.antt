use Rattle.std.proofs.Common.{sym, ◌∙◌}
use Rattle.lin_field.proofs.NothingTold.{no_new_drafts}
use Rattle.lin_field.proofs.attributes.new_drafts.Goals as goal

pub returns-then-tells_nothing : goal.returns-then-tells_nothing
returns-then-tells_nothing c = c.new.ensures.items ∙ no_new_drafts c.args.told.now c.args.blocks.now (sym c.tells_nothing.ensures ∙ c.if-tells_nothing.true)
