-- No promise rests on this: whether the bus sleeps, and the responder that is selected.
use Rattle.std.specs.Prelude.{◌≡◌, ◌==◌, nat_le, false, true, if◌then◌else◌, List, slice_index}
use Rattle.std.specs.Prelude.{None}
use Rattle.std.specs.Option.{option_map_or}
use Rattle.lin_core.specs.History.{Slot, asleep, is_sleep_asked, good_under, LogEntry, Parts}
use Rattle.lin_core.specs.Slots.{node_with, selected_node}
use Rattle.lin_core.specs.declared.bus_state.BusState.{BusState}

pub record KeepsBus (c : Parts) (past : List LogEntry) (bus : BusState) : Type 0 where
  pub asleep_is : bus.asleep ≡ asleep past
  pub asked_is : bus.asked ≡ is_sleep_asked past
  pub selected_is : bus.selected ≡ selected_node c past

-- after a slot that ends
abbrev pub bus_after : Parts → Slot → BusState → BusState
bus_after c s bus =
    option_map_or
    (λ bytes.
    if slice_index bytes 0 == 0 then record { asleep = true; asked = false; selected = None }
    else if nat_le (slice_index bytes 0) 125
    then record bus { selected = node_with c (slice_index bytes 0) }
    else bus)
    (good_under 0x3C s) bus
