use Rattle.std.proofs.Common.{◌≡◌, map, take}
use Rattle.lin_cluster.specs.Described.{described_line}
use Rattle.lin_cluster.proofs.described.tables.lines_of.Given as goal

abbrev pub invariant-loop-entry : goal.invariant-loop-entry
invariant-loop-entry l = l.lines.items ≡ map (described_line l.d) (take l.entry-index l.entries)
