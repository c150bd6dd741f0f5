use Rattle.std.proofs.Common.{◌∙◌, ◌≡◌, List, ap, subst, take}
use Rattle.lin_core.specs.Core.{CoreData, IsAlike, IsHistory}
use Rattle.lin_core.specs.Runs.{steps_of}
use Rattle.lin_core.specs.declared.log.LogEntry.{LogEntry}
use Rattle.lin_bench.specs.Adding.{AreAdded}
use Rattle.lin_bench.specs.Making.{RuledData}
use Rattle.lin_bench.proofs.Back.{back-log}
use Rattle.lin_bench.proofs.ruled.RuledCore.back.Goals as goal

pub returns-in-Ok-clause-log : goal.returns-in-Ok-clause-log
returns-in-Ok-clause-log c =
    let old = c.args.self.core in
    let fresh = c.in_ok-core.core in
    let new = c.make_all.new.self.core in
    let steps = c.in_ok-steps.steps.items in
    let n = c.args.entries in
    let history : IsHistory old = subst (λ (r : RuledData). IsHistory r.core) c.self.view_is c.log.ensures.history in
    let said : steps ≡ steps_of (take n old.log) =
    c.in_ok-steps.ensures
    ∙ ap (λ (l : List LogEntry). steps_of (take n l)) (c.log.ensures.entries ∙ ap (λ (r : RuledData). r.core.log) c.self.view_is) in
    let alike : IsAlike old fresh = (
      c.in_ok-core.ensures.1 ∙ c.into_cluster-cluster.ensures ∙ ap (λ (k : CoreData). k.cluster) c.into_core.ensures,
      c.in_ok-core.ensures.2 ∙ c.requires.table,
      c.in_ok-core.ensures.3 ∙ c.requires.capacity,
    ) in
    let added : AreAdded fresh steps new =
    subst (λ (r : RuledData). AreAdded r.core steps new) c.new-back.ensures c.in-Ok.ensures.added in
    ap (λ (r : RuledData). r.core.log) c.with.ensures
    ∙ (back-log old fresh new n steps history said c.in_ok-core.ensures.0 alike added).0
