-- The steps by which responders tell errors in responses (LIN 2.2A, 2.7.3; ISO 17987-3, status
-- management).
use Rattle.std.specs.Prelude.{ℕ, ◌==◌, ◌&&◌, Bool, true, false, not, if◌then◌else◌}
use Rattle.std.specs.Prelude.{List, [], ◌∷◌, filter_map, map, Option, Some, None, is_some}
use Rattle.std.specs.Prelude.{option_map}
use Rattle.std.specs.Option.{option_map_or}
use Rattle.lin_frame.specs.declared.value.Value.{Value}
use Rattle.lin_frame.specs.declared.value.Value.TheVariants.{Scalar, Bytes}
use Rattle.lin_parts.specs.Cluster.{has_signal, line_of, nad}
use Rattle.lin_parts.specs.Rules.{is_event}
use Rattle.lin_parts.specs.declared.parts.ErrorSignal.{ErrorSignal}
use Rattle.lin_parts.specs.declared.parts.Parts.{Parts}
use Rattle.lin_core.specs.History.{Slot, finished_slot, good, header_is, is_in, seen_of}
use Rattle.lin_core.specs.Signals.{carried_frame, heard_value, value}
use Rattle.lin_core.specs.declared.event.Seen.{Seen}
use Rattle.lin_core.specs.declared.event.Seen.TheVariants.{Damaged}
use Rattle.lin_core.specs.declared.log.LogEntry.{LogEntry}
use Rattle.lin_core.specs.declared.port.PortId.{PortId}
use Rattle.lin_core.specs.declared.port.PortId.TheVariants.{Host}
use Rattle.lin_core.specs.declared.step.Step.{Step}
use Rattle.lin_core.specs.declared.step.Step.TheVariants.{Write}
use Rattle.lin_bench.specs.declared.errors.EndedSlot.{EndedSlot}

abbrev pub is_damaged_seen : Seen → Bool
is_damaged_seen Damaged = true
is_damaged_seen how = false

-- what decides of a slot: an error in its response, but not in an answer to an event-triggered
-- header; that it was seen good; and whom it concerns
abbrev pub ended_slot : Parts → Slot → EndedSlot
ended_slot c s = record {
  has_error =
      is_damaged_seen (seen_of s) && not (is_event (line_of c s.table s.entry).entry);
  is_good = is_some (good s);
  header = s.header;
  nodes = map (λ (p : ℕ × List ℕ). p.0) s.puts;
  frame = carried_frame c s;
}

-- whether a response concerns the node, which transmits or receives it: that of a request slot each
-- responder with an address, that of a response slot the node that answered
abbrev pub concerns : Parts → EndedSlot → ErrorSignal → Bool
concerns c o r =
    if header_is 0x3C o.header then is_some (nad c r.node)
    else if header_is 0x7D o.header then is_in o.nodes r.node
    else option_map_or (is_in r.frames) o.frame false

abbrev pub equals_scalar : ℕ → Value → Bool
equals_scalar n (Scalar v) = v == n
equals_scalar n (Bytes b) = false

-- the frame with the signal was sent, and told others an error
abbrev pub reports_error : Parts → List LogEntry → EndedSlot → ErrorSignal → Bool
reports_error c now o r =
    o.is_good && option_map_or (has_signal c r.signal) o.frame false
    && not (equals_scalar 0 (heard_value c now r.signal))

-- a number, where the signal isn't that already
abbrev pub set_to : ℕ → Value → Option ℕ
set_to n v = if equals_scalar n v then None else Some n

-- what the signal is set to after a slot: 1 by an error, and 0 when that was told
abbrev pub set_after : Parts → List LogEntry → EndedSlot → ErrorSignal → Option ℕ
set_after c now o r =
    if o.has_error && concerns c o r then set_to 1 (value c now r.signal)
    else if reports_error c now o r then set_to 0 (value c now r.signal)
    else None

abbrev pub error_write : ErrorSignal → ℕ → PortId × Step
error_write r n = (Host r.node, Write r.node r.signal (Scalar n))

-- a node that is off sets nothing
abbrev pub set_unless_off : Parts → List LogEntry → EndedSlot → List ℕ → ErrorSignal → Option ℕ
set_unless_off c now o offs r = if is_in offs r.node then None else set_after c now o r

abbrev pub error_told : Parts → List LogEntry → EndedSlot → List ℕ → ErrorSignal
    → Option (PortId × Step)
error_told c now o offs r = option_map (error_write r) (set_unless_off c now o offs r)

-- the steps after a finish, by rising responder
abbrev pub errors_told : Parts → LogEntry → List LogEntry → List ℕ → Bool → List (PortId × Step)
errors_told c e past offs false = []
errors_told c e past offs true =
    option_map_or
    (λ s. filter_map (error_told c (e ∷ past) (ended_slot c s) offs) c.errors) (finished_slot e past) []
