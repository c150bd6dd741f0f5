use Rattle.std.proofs.Common.{◌≡◌, flat_map, take}
use Rattle.lin_sections.specs.FrameTimes.{longest, table_distances}
use Rattle.lin_sections.proofs.frame_times.longest_distance.Given as goal

abbrev pub invariant-loop-table : goal.invariant-loop-table
invariant-loop-table l = l.longest ≡ longest (flat_map (table_distances l.name) (take l.table-index l.description.tables))
