use Rattle.std.proofs.Common.{◌∙◌, sym}
use Rattle.lin_bench.proofs.Searches.{same-kind}
use Rattle.lin_bench.proofs.left_events.EventCount.is_of.Goals as goal

pub returns-then-is-clause-kind : goal.returns-then-is-clause-kind
returns-then-is-clause-kind c = λ is. same-kind c.args.self.kind c.args.kind (sym c.is.ensures ∙ c.if-is.true)
