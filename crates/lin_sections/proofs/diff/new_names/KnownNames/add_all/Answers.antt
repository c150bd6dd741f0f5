use Rattle.lin_sections.proofs.NewNameSteps.{names-kept}
use Rattle.lin_sections.proofs.diff.new_names.KnownNames.add_all.Goals as goal

pub loop-one-init : goal.loop-one-init
loop-one-init g c = λ q. names-kept c.args.self.now.map c.reserve.new.self q c.in_ok-reserve.ensures.entries
