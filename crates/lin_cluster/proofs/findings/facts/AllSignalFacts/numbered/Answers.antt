use Rattle.std.proofs.Common.{◌∙◌}
use Rattle.lin_cluster.specs.FindingsNames.{same_name}
use Rattle.lin_cluster.specs.Known.{signal_facts}
use Rattle.lin_cluster.proofs.NamesFound.{made_of}
use Rattle.lin_cluster.proofs.findings.facts.AllSignalFacts.numbered.Goals as goal

pub returns-clause-facts : goal.returns-clause-facts
returns-clause-facts c = rw (← c.self.view_is) (c.at.ensures ∙ made_of (signal_facts c.self.inside.known) (λ x. same_name x.name c.args.name.now) c.self.inside.known.signals c.signal_number-number.result c.as_slice.result.now _ c.as_slice.ensures.value c.self.invariant c.signal_number-number.ensures)
