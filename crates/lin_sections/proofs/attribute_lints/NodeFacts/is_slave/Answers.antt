use Rattle.std.proofs.Common.{◌∙◌, ap, sym}
use Rattle.std.specs.Prelude.{find}
use Rattle.std.specs.Option.{option_copied}
use Rattle.lin_cluster.specs.FindingsNames.{same_name}
use Rattle.lin_sections.proofs.AttributeSteps.{none_found}
use Rattle.lin_sections.proofs.attribute_lints.NodeFacts.is_slave.Goals as goal

pub returns-in-None : goal.returns-in-None
returns-in-None c =
    sym (none_found (λ m. same_name m c.args.name.now) c.args.self.now.slaves (sym (ap option_copied c.in-None.is) ∙ c.find_by.ensures ∙ ap (find (λ m. same_name m c.args.name.now)) c.slaves.ensures))
