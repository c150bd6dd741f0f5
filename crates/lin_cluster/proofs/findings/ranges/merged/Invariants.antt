use Rattle.std.proofs.Common.{ℕ, ◌<◌}
use Rattle.std.specs.Prelude.{◌↔◌}
use Rattle.std.specs.BTreeMap.{btree_map_len}
use Rattle.lin_cluster.specs.FindingsRanges.{AreApart, Covers}
use Rattle.lin_cluster.proofs.findings.ranges.merged.Given as goal

abbrev pub invariant-loop-other : goal.invariant-loop-other
invariant-loop-other l = record {
  apart : AreApart l.ranges;
  some : l.first < l.after;
  same : (a b : ℕ) → a < b → Covers l.ranges l.first l.after a b ↔ Covers l.fn.ranges l.start l.end a b;
}

abbrev pub decreases-loop-other : goal.decreases-loop-other
decreases-loop-other l = btree_map_len l.ranges
