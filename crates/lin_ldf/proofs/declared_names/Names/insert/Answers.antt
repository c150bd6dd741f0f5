use Rattle.std.proofs.Common.{◌∙◌, sym, ap, not}
use Rattle.lin_ldf.proofs.AnyName.{any_name}
use Rattle.lin_ldf.proofs.declared_names.Names.insert.Goals as goal

pub returns-clause-new : goal.returns-clause-new
returns-clause-new c = rw (← c.self.view_is) (c.in_ok-insert.ensures.added ∙ ap not (sym (any_name c.args.name.now c.self.inside.seen.keys)))
