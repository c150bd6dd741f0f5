use Rattle.std.proofs.Common.{ap, ◌∙◌}
use Rattle.lin_cluster.specs.Slots.{greatest_size}
use Rattle.std.specs.List.{position_or_len}
use Rattle.lin_cluster.proofs.NamesFound.{made_of}
use Rattle.lin_cluster.specs.FindingsNames.{same_name}
use Rattle.lin_cluster.proofs.findings.judged.DeclarationFacts.sporadic_size.Goals as goal
use Rattle.lin_cluster.specs.declared.findings.judged.DeclarationFacts.TheInside.{Inside}

pub returns : goal.returns
returns c = rw (← c.self.view_is) (c.at.ensures ∙ made_of (λ f. greatest_size c.self.inside.signals f.members) (λ x. same_name x.name c.args.name.now) c.self.inside.signals.sporadic c.sporadic_number.result c.as_slice.result.now _ (c.as_slice.ensures.value ∙ ap (λ (j : Inside). j.facts.sporadic.items) c.self-inside.view_is) c.self.invariant.1.0 (c.sporadic_number.ensures ∙ ap (λ (j : Inside). position_or_len (λ x. same_name x.name c.args.name.now) j.signals.sporadic) c.self-inside.view_is))
