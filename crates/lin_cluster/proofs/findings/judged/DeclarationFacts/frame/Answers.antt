use Rattle.std.proofs.Common.{ap, ◌∙◌}
use Rattle.lin_cluster.specs.FindingsNames.{same_name}
use Rattle.lin_cluster.specs.Known.{frame_facts}
use Rattle.std.specs.List.{position_or_len}
use Rattle.lin_cluster.proofs.NamesFound.{made_of}
use Rattle.lin_cluster.proofs.findings.judged.DeclarationFacts.frame.Goals as goal
use Rattle.lin_cluster.specs.declared.findings.judged.DeclarationFacts.TheInside.{Inside}

pub returns : goal.returns
returns c = rw (← c.self.view_is) (c.at.ensures ∙ made_of (frame_facts c.self.inside.signals) (λ x. same_name x.name c.args.name.now) c.self.inside.signals.frames c.frame_number.result c.as_slice.result.now _ (c.as_slice.ensures.value ∙ ap (λ (j : Inside). j.facts.frames.items) c.self-inside.view_is) c.self.invariant.0 (c.frame_number.ensures ∙ ap (λ (j : Inside). position_or_len (λ x. same_name x.name c.args.name.now) j.signals.frames) c.self-inside.view_is))
