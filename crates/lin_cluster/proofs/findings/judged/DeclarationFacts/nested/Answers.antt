use Rattle.std.proofs.Common.{ap, ◌∙◌}
use Rattle.std.specs.List.{list_any, position_or_len}
use Rattle.lin_cluster.specs.FindingsNames.{is_event_entry, same_name}
use Rattle.lin_cluster.proofs.NamesFound.{made_of}
use Rattle.lin_cluster.proofs.findings.judged.DeclarationFacts.nested.Goals as goal
use Rattle.lin_cluster.specs.declared.findings.judged.DeclarationFacts.TheInside.{Inside}

pub returns : goal.returns
returns c = rw (← c.self.view_is) (c.at.ensures ∙ made_of (λ t. list_any (is_event_entry c.self.inside.signals) t.entries) (λ x. same_name x.name c.args.name.now) c.self.inside.signals.tables c.table_number.result c.as_slice.result.now _ (c.as_slice.ensures.value ∙ ap (λ (j : Inside). j.facts.nested.items) c.self-inside.view_is) c.self.invariant.2 (c.table_number.ensures ∙ ap (λ (j : Inside). position_or_len (λ x. same_name x.name c.args.name.now) j.signals.tables) c.self-inside.view_is))
