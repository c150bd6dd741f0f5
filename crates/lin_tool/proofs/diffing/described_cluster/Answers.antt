use Rattle.std.proofs.Common.{sym, ◌∙◌}
use Rattle.lin_cluster.proofs.NothingElse.{free-is-sound}
use Rattle.lin_tool.proofs.Differing.{all-found, nothing-found}
use Rattle.lin_tool.proofs.diffing.described_cluster.Goals as goal

pub cluster_of-requires-clause-sound : goal.cluster_of-requires-clause-sound
cluster_of-requires-clause-sound c =
    free-is-sound c.args.description.now
    (nothing-found c.args.description.now c.in_ok-found.field-0.found.items c.as_slice.result.now c.in_ok-found.ensures.found c.as_slice.ensures.value (sym c.is_empty.ensures ∙ c.if-is_empty.true))

pub returns-in_ok-cluster_of-clause-said : goal.returns-in_ok-cluster_of-clause-said
returns-in_ok-cluster_of-clause-said c =
    let free = nothing-found c.args.description.now c.in_ok-found.field-0.found.items c.as_slice.result.now c.in_ok-found.ensures.found c.as_slice.ensures.value
    (sym c.is_empty.ensures ∙ c.if-is_empty.true) in
    record { free = free; said = c.in_ok-cluster_of.ensures.cluster; long = c.in_ok-cluster_of.ensures.slots free }

pub returns-in_ok-cluster_of-clause-answers : goal.returns-in_ok-cluster_of-clause-answers
returns-in_ok-cluster_of-clause-answers c = λ text described.
    let free = nothing-found c.args.description.now c.in_ok-found.field-0.found.items c.as_slice.result.now c.in_ok-found.ensures.found c.as_slice.ensures.value
    (sym c.is_empty.ensures ∙ c.if-is_empty.true) in
    record {
      description = c.args.description.now;
      described = described;
      free = free;
      said = c.in_ok-cluster_of.ensures.cluster;
      long = c.in_ok-cluster_of.ensures.slots free;
    }

pub returns-else-is_empty-clause-answers : goal.returns-else-is_empty-clause-answers
returns-else-is_empty-clause-answers c = λ text described.
    rw c.new.ensures (all-found text c.args.description.now c.in_ok-found.field-0.found.items c.as_slice.result.now described c.in_ok-found.ensures.found c.as_slice.ensures.value
    (sym c.is_empty.ensures ∙ c.if-is_empty.false))
