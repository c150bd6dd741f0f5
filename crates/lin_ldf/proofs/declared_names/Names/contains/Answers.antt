use Rattle.std.proofs.Common.{◌∙◌, sym}
use Rattle.lin_ldf.proofs.AnyName.{any_name}
use Rattle.lin_ldf.proofs.declared_names.Names.contains.Goals as goal

pub returns : goal.returns
returns c = rw (← c.self.view_is) (c.contains.ensures ∙ sym (any_name c.args.name.now c.self.inside.seen.keys))
