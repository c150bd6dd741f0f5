use Rattle.lin_cluster.specs.FindingsNames.{signal_named}
use Rattle.lin_cluster.specs.Known.{signal_facts}
use Rattle.lin_cluster.specs.Models.{has_lin_1}
use Rattle.lin_cluster.proofs.Made.{made_test, made_untested}
use Rattle.lin_cluster.proofs.findings.facts.AllSignalFacts.carries_to_lin_1.Goals as goal

pub returns-in-Some : goal.returns-in-Some
returns-in-Some c = made_test (signal_facts c.args.self.now) (λ s. s.is_read_by_lin_1) (signal_named c.args.self.now c.args.placed.now.signal) c.in-Some.signal c.in-Some.ensures

pub returns-in-None : goal.returns-in-None
returns-in-None c = made_untested (signal_facts c.args.self.now) (has_lin_1 c.args.self.now) (signal_named c.args.self.now c.args.placed.now.signal) c.in-None.ensures
