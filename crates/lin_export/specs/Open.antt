-- The slot that the code keeps.
use Rattle.std.specs.Prelude.{[]}
use Rattle.lin_core.specs.History.{Slot}
use Rattle.lin_export.specs.declared.tracked_slot.TrackedSlot.{TrackedSlot}

abbrev pub tracked_slot : TrackedSlot → Slot
tracked_slot s = record {
  table = s.table;
  entry = s.entry;
  header = s.header;
  service = s.service;
  due = s.due.items;
  puts = s.puts.items;
  left = [];
  hurt = s.hurt;
}
