-- The load of a schedule table: its cycle, its bus load, and the slot with the least slack.
use Rattle.std.specs.Prelude.{ℕ, List, length, map}
use Rattle.lin_frame.specs.Words.{numbers}
use Rattle.lin_parts.specs.Cluster.{table_of}
use Rattle.lin_parts.specs.declared.parts.Parts.{Parts}
use Rattle.lin_schedule.specs.Schedule.{total}
use Rattle.lin_schedule.specs.declared.table_load.TableLoad.{TableLoad}
use Rattle.lin_export.specs.ListedSlots.{bits_of, permille}
use Rattle.lin_export.specs.ListedTiming.{tightest_slot}

abbrev pub table_load : Parts → ℕ → TableLoad
table_load c t = record {
  cycle_us = total (table_of c t);
  load = permille (bits_of c t) c.speed (total (table_of c t));
  delay_us = (tightest_slot c t).0;
  needed_us = (tightest_slot c t).1;
}

abbrev pub table_loads : Parts → List TableLoad
table_loads c = map (table_load c) (numbers (length c.tables))
