use Rattle.std.proofs.Common.{◌∙◌, List, ap, subst, sym, take}
use Rattle.lin_core.specs.declared.log.LogEntry.{LogEntry}
use Rattle.lin_bench.specs.Bench.{BenchData}
use Rattle.lin_bench.specs.Searches.{IsSearchState}
use Rattle.lin_bench.proofs.bench.Bench.back.Goals as goal

pub invariant_of-result : goal.invariant_of-result
invariant_of-result c =
    let n = c.args.mark.now.entries in
    let taken = c.in_ok-taken.taken in
    let first = c.in_ok-back.ensures.log ∙ ap (λ (b : BenchData). take n b.core.log) c.self.view_is in
    subst (λ (l : List LogEntry). IsSearchState l taken) (sym first)
    ((c.in_ok-taken.ensures (take n c.args.self.core.log)).0 c.requires.mark.taken)
