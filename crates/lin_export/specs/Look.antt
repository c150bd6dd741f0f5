-- How a slot is seen.
use Rattle.lin_core.specs.declared.event.Seen.{Seen}
use Rattle.lin_core.specs.declared.event.Seen.TheVariants as seen
use Rattle.lin_export.specs.declared.tracked_slot.SeenSlot.{SeenSlot}
use Rattle.lin_export.specs.declared.tracked_slot.SeenSlot.TheVariants.{Silent, NoAnswer, Good, Damaged}
use Rattle.lin_export.specs.declared.tracked_slot.SeenSlot.TheVariants.{Collided}

abbrev pub seen_as : SeenSlot → Seen
seen_as Silent = seen.Silent
seen_as NoAnswer = seen.NoAnswer
seen_as (Good answer) = seen.Good answer.now
seen_as Damaged = seen.Damaged
seen_as Collided = seen.Collided
