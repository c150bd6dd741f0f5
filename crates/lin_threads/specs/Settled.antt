-- What settling finds.
use Rattle.std.specs.Prelude.{◌≡◌, ℕ, ◌<◌, true, List, length, Some}
use Rattle.std.specs.List.{slice_get}
use mathlib.Core.List.{IsPrefix}
use Rattle.rtrb.specs.Ring.{sent}
use Rattle.lin_core.specs.declared.log.LogEntry.{LogEntry}
use Rattle.lin_threads.specs.Steps.{logged, notes}
use Rattle.lin_threads.specs.Lanes.{steps_from_ring, lane_wiring}
use Rattle.lin_threads.specs.Ports.{Wiring, receipt_wiring, receipt_id, receipt_put, receipt_took}
use Rattle.lin_threads.specs.Ports.{IsReceiptOf}
use Rattle.lin_threads.specs.Messages.{BeginsGrowths}
use Rattle.lin_threads.specs.Pumps.{core_of, since, first_entry, given_to}
use Rattle.lin_threads.specs.declared.ports.lane.Lane.{Lane}
use Rattle.lin_threads.specs.declared.ports.pump.Pump.{Pump}
use Rattle.lin_threads.specs.declared.ports.Receipt.{Receipt}
use Rattle.lin_threads.specs.declared.ports.settling.Settled.{Settled}
use Rattle.lin_threads.specs.declared.ports.settling.Settled.TheVariants.{Whole, Left}

-- the same receipt: its port and its lists
abbrev pub SameReceipt : Receipt → Receipt → Type 0
SameReceipt a b = IsReceiptOf (receipt_wiring a) (receipt_put a) (receipt_took a) b

-- the lists of a lane that was looked at are as before
pub record KeptLane (a b : Lane) : Type 0 where
  pub wiring : lane_wiring b ≡ lane_wiring a
  pub steps : steps_from_ring b.number b.steps ≡ steps_from_ring a.number a.steps
  pub notes : sent b.notes ≡ sent a.notes
  pub seen : b.seen ≡ a.seen
  pub part : b.part ≡ a.part
  pub given : b.given ≡ a.given
  pub settled : a.settled ≡ true → b.settled ≡ true

-- all that was put came out of the ring, and the lane is settled; or the beginning of it did
abbrev pub LaneSettles : Lane → Lane → Receipt → Settled → Type 0
LaneSettles old new r (Whole s) =
    SameReceipt r s × IsPrefix (receipt_took s) (sent new.notes)
    × (steps_from_ring new.number new.steps ≡ receipt_put s) × (new.settled ≡ true)
LaneSettles old new r (Left s) =
    SameReceipt r s × IsPrefix (receipt_took s) (sent new.notes)
    × (length (steps_from_ring new.number new.steps) < length (receipt_put s))
    × IsPrefix (steps_from_ring new.number new.steps) (receipt_put s)

-- the port's lane is passed over: no step of it is taken any more
abbrev pub IsPassedOver : List Lane → Wiring → Type 0
IsPassedOver lanes port =
    (i : ℕ) × (lane : Lane) × (slice_get lanes i ≡ Some lane) × (lane_wiring lane ≡ port)
    × (lane.settled ≡ true)

-- the notes that a port took are the first ones of those that the log names, and of those that were
-- pushed to it; and its messages from each sender are the first ones of those by which the reading
-- of their link grew
pub record TookOnlyNotes (pump : Pump) (r : Receipt) : Type 0 where
  pub named : IsPrefix (receipt_took r) (notes (since pump) (receipt_id r))
  pub given : IsPrefix (receipt_took r) (given_to pump (receipt_id r))
  pub messages : BeginsGrowths (core_of pump) (first_entry pump) (receipt_id r) (receipt_took r)

-- all that the port put is logged, in order and each once, and the port is passed over
pub record IsSettledIn (es : List LogEntry) (lanes : List Lane) (r : Receipt) : Type 0 where
  pub passed : IsPassedOver lanes (receipt_wiring r)
  pub whole : logged es (receipt_id r) ≡ receipt_put r
  pub took : IsPrefix (receipt_took r) (notes es (receipt_id r))

abbrev pub IsSettled : Pump → Receipt → Type 0
IsSettled pump r = IsSettledIn (since pump) pump.lanes.items r

-- the beginning of what the port put was logged, in order and each once
pub record IsLeft (pump : Pump) (r : Receipt) : Type 0 where
  pub first : IsPrefix (logged (since pump) (receipt_id r)) (receipt_put r)
  pub shorter : length (logged (since pump) (receipt_id r)) < length (receipt_put r)

abbrev pub Settles : Pump → Receipt → Settled → Type 0
Settles pump r (Whole s) = SameReceipt r s × TookOnlyNotes pump s × IsSettled pump s
Settles pump r (Left s) = SameReceipt r s × TookOnlyNotes pump s × IsLeft pump s

-- a port that is settled stays so: all that it put stays all that is logged of it, and no more
-- notes are pushed to it
abbrev pub StaysSettled : Pump → Pump → Type 0
StaysSettled a b =
    (r : Receipt) → IsSettled a r
    → IsSettled b r × (given_to b (receipt_id r) ≡ given_to a (receipt_id r))
