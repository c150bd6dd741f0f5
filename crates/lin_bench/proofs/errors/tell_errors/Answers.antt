use Rattle.std.proofs.Common.{◌≡◌, ◌∙◌, ◌++◌, filter_map, sym}
use Rattle.lin_core.specs.Core.{past_of}
use Rattle.lin_bench.specs.Errors.{error_told}
use Rattle.lin_bench.proofs.NotedAnswers.{where-ok}
use Rattle.lin_bench.proofs.ToldErrors.{writes-told}
use Rattle.lin_bench.proofs.errors.tell_errors.Goals as goal

pub returns-in-Some : goal.returns-in-Some
returns-in-Some c =
    let core = c.args.core.now in
    where-ok c.add_writes.result
    (λ (added : c.add_writes.new.steps.items ≡ c.args.steps.now.items ++ filter_map (error_told core.cluster (past_of core) c.in-Some.ended c.args.offs.now) core.cluster.errors) by past s fin.
    writes-told core by past s c.in-Some.ended c.args.offs.now c.args.steps.now.items c.add_writes.new.steps.items fin (sym c.in-Some.is ∙ c.in_ok-ended.ensures by past s fin) added)
    c.add_writes.ensures
