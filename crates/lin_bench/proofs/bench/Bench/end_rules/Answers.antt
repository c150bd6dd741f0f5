use Rattle.std.proofs.Common.{◌∙◌, ap, refl}
use Rattle.lin_core.specs.Core.{CoreData}
use Rattle.lin_bench.specs.Bench.{bench_data}
use Rattle.lin_bench.specs.Rules.{has_rule}
use Rattle.lin_bench.specs.Searches.{taken_by}
use Rattle.lin_bench.specs.declared.rules.Rules.{Rules}
use Rattle.lin_bench.proofs.Benches.{end-made}
use Rattle.lin_bench.proofs.bench.Bench.end_rules.Goals as goal

pub returns : goal.returns
returns c =
    let found = c.has_rule-found.ensures ∙ ap (λ (r : Rules). has_rule r c.args.end) c.rules.ensures in
    let core = c.end_rules.ensures.core in
    rw (c.ended_verdict.ensures, ← c.self.view_is)
    (end-made (bench_data c.self.inside) _ c.args.end c.has_rule-found.result found core c.in_ok-end_rules.ensures.rules
    (ap (λ (k : CoreData). taken_by k.log c.self.inside.taken) core) refl)
