use Rattle.std.proofs.Common.{◌≡◌, ◌++◌, ℕ, take}
use Rattle.std.specs.Prelude.{nat_eq}
use Rattle.std.specs.List.{flat_map}
use Rattle.std.specs.List.{enumerate_from}
use Rattle.indexmap.specs.IndexSet.{contains}
use Rattle.lin_cluster.specs.Findings.{in_event_member}
use Rattle.lin_cluster.proofs.FindingsNodes.{publishes}
use Rattle.lin_cluster.proofs.findings.members.members_in_order.Given as goal

abbrev pub invariant-loop-member : goal.invariant-loop-member
invariant-loop-member l = record {
  found : l.found.items ≡ l.fn.found.items ++ flat_map (in_event_member l.judged l.members) (take l.member-index (enumerate_from 0 l.members));
  publishers : (q : ℕ) → contains nat_eq l.publishers.numbers q ≡ publishes l.judged (take l.member-index l.members) q;
}
