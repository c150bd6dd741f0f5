-- The cluster that an LDF description says (LIN 2.2A, section 9). Things of each kind are numbered
-- in file order, and a name means the first that has it. A name that nothing has means the number
-- after the last; such a description has a finding.
use Rattle.std.specs.Prelude.{ℕ, Bool, List, [], ◌∷◌, length, map, find, slice_index_or, Option}
use Rattle.std.specs.Prelude.{Some, None, option_and_then, ◌==◌, nat_lt, if◌then◌else◌, codes}
use Rattle.std.specs.Prelude.{◌&&◌, ◌||◌, false, filter, filter_map, not, slice_get}
use Rattle.std.specs.List.{list_any, enumerate_from, position_or_len, range_with_len}
use Rattle.std.specs.Option.{option_map, option_map_or}
use Rattle.std.specs.Str.{bytes_eq}
use Rattle.lin_frame.specs.Frame.{pid}
use Rattle.lin_frame.specs.declared.layout.Layout.{Layout}
use Rattle.lin_frame.specs.declared.layout.Place.{Place}
use Rattle.lin_frame.specs.declared.sums.SumKind.TheVariants.{Enhanced}
use Rattle.lin_frame.specs.declared.value.Value.{Value}
use Rattle.lin_frame.specs.declared.value.Value.TheVariants as values
use Rattle.lin_parts.specs.declared.description.Attributes.{Attributes}
use Rattle.lin_parts.specs.declared.description.Description.{Description}
use Rattle.lin_parts.specs.declared.description.EventFrame as declared_event
use Rattle.lin_parts.specs.declared.description.Frame as declared_frame
use Rattle.lin_parts.specs.declared.description.Init.{Init}
use Rattle.lin_parts.specs.declared.description.Init.TheVariants as inits
use Rattle.lin_parts.specs.declared.description.Name.{Name}
use Rattle.lin_parts.specs.declared.description.PlacedSignal.{PlacedSignal}
use Rattle.lin_parts.specs.declared.description.Signal as declared_signal
use Rattle.lin_parts.specs.declared.description.Sporadic as declared_sporadic
use Rattle.lin_parts.specs.declared.description.Table as declared_table
use Rattle.lin_parts.specs.declared.description.TableEntry.{TableEntry}
use Rattle.lin_cluster.specs.Models.{frame_model, first_model}
use Rattle.lin_cluster.specs.FindingsNames.{same_name}
use Rattle.lin_parts.specs.Rules.{is_array, place_at}
use Rattle.lin_parts.specs.declared.parts.Entry.{Entry}
use Rattle.lin_parts.specs.declared.parts.Entry.TheVariants as entries
use Rattle.lin_parts.specs.declared.parts.ErrorSignal.{ErrorSignal}
use Rattle.lin_parts.specs.declared.parts.EventFrame.{EventFrame}
use Rattle.lin_parts.specs.declared.parts.Line.{Line}
use Rattle.lin_parts.specs.declared.parts.Node.{Node}
use Rattle.lin_parts.specs.declared.parts.Parts.{Parts}
use Rattle.lin_parts.specs.declared.parts.Signal.{Signal}
use Rattle.lin_parts.specs.declared.parts.SignalFrame.{SignalFrame}
use Rattle.lin_parts.specs.declared.parts.SporadicFrame.{SporadicFrame}
use Rattle.lin_parts.specs.declared.parts.Table.{Table}

-- ---- numbers of names

-- the commander is node 0, the responders follow from 1
abbrev pub node_names : Description → List Name
node_names d = d.master ∷ d.slaves

abbrev pub node_number : Description → Name → ℕ
node_number d name = position_or_len (λ n. bytes_eq n.text name.text) (node_names d)

abbrev pub signal_number : Description → Name → ℕ
signal_number d name = position_or_len (λ s. bytes_eq s.name.text name.text) d.signals

abbrev pub frame_number : Description → Name → ℕ
frame_number d name = position_or_len (λ f. bytes_eq f.name.text name.text) d.frames

abbrev pub sporadic_number : Description → Name → ℕ
sporadic_number d name = position_or_len (λ f. bytes_eq f.name.text name.text) d.sporadic

abbrev pub event_number : Description → Name → ℕ
event_number d name = position_or_len (λ f. bytes_eq f.name.text name.text) d.events

abbrev pub table_number : Description → Name → ℕ
table_number d name = position_or_len (λ t. bytes_eq t.name.text name.text) d.tables

-- ---- nodes (section 9.2.2)

-- whether a block of attributes is that of the node with this number
abbrev pub is_block_of : Description → ℕ → Attributes → Bool
is_block_of d n block = node_number d block.node == n

abbrev pub configured_address : Attributes → Option ℕ
configured_address block = option_map (λ n. n.value) block.configured_nad

-- the configured NAD in the block of a responder's attributes
abbrev pub described_nad : Description → ℕ → Option ℕ
described_nad d n = option_and_then configured_address (find (is_block_of d n) d.attributes)

abbrev pub responder : Description → ℕ × Name → Node
responder d slave = record { name = slave.1.text; nad = described_nad d slave.0 }

abbrev pub nodes_of : Description → List Node
nodes_of d =
    record { name = d.master.text; nad = None } ∷ map (responder d) (enumerate_from 1 d.slaves)

-- ---- signals (section 9.2.3)

abbrev pub initial_of : Init → Value
initial_of (inits.Scalar n) = values.Scalar n.value
initial_of (inits.Array place items) = values.Bytes (map (λ n. n.value) items)

abbrev pub described_signal : Description → declared_signal.Signal → Signal
described_signal d s = record {
  name = s.name.text;
  publisher = node_number d s.publisher;
  subscribers = map (node_number d) s.subscribers;
  size = s.size.value;
  initial = initial_of s.init;
}

abbrev pub signals_of : Description → List Signal
signals_of d = map (described_signal d) d.signals

-- ---- frames (section 9.2.4)

-- whether an event-triggered frame lists the frame with this number
abbrev pub is_member : Description → ℕ → Bool
is_member d k = list_any (λ e. list_any (λ m. frame_number d m == k) e.members) d.events

-- a signal at its offset, as large as it is declared; out of range: a signal of one bit
abbrev pub described_place : Description → PlacedSignal → Place
described_place d p =
    place_at p.offset.value
    (slice_index_or (signals_of d) (signal_number d p.signal)
    (record { name = []; publisher = 0; subscribers = []; size = 1; initial = values.Scalar 0 }))

-- data byte 0 holds the protected identifier where an event-triggered frame lists the frame
abbrev pub own_pid : Description → ℕ × declared_frame.Frame → Option ℕ
own_pid d frame = if is_member d frame.0 then Some (pid frame.1.id.value) else None

abbrev pub described_layout : Description → ℕ × declared_frame.Frame → Layout
described_layout d frame = record {
  len = frame.1.size.value;
  pid = own_pid d frame;
  places = map (described_place d) frame.1.placed;
}

abbrev pub described_frame : Description → ℕ × declared_frame.Frame → SignalFrame
described_frame d frame = record {
  name = frame.1.name.text;
  pid = pid frame.1.id.value;
  model = frame_model d frame.1;
  publisher = node_number d frame.1.publisher;
  layout = described_layout d frame;
  signals = map (λ p. signal_number d p.signal) frame.1.placed;
}

abbrev pub frames_of : Description → List SignalFrame
frames_of d = map (described_frame d) (enumerate_from 0 d.frames)

-- the frames that these names mean
abbrev pub members_of : Description → List Name → List ℕ
members_of d names = map (frame_number d) names

abbrev pub described_sporadic : Description → declared_sporadic.Sporadic → SporadicFrame
described_sporadic d s = record { name = s.name.text; frames = members_of d s.members }

abbrev pub sporadic_frames_of : Description → List SporadicFrame
sporadic_frames_of d = map (described_sporadic d) d.sporadic

-- its answers have the checksum model of the first member
abbrev pub described_event : Description → declared_event.EventFrame → EventFrame
described_event d e = record {
  name = e.name.text;
  pid = pid e.id.value;
  model = option_map_or (λ model. model) (first_model d e.members) Enhanced;
  table = table_number d e.table;
  frames = members_of d e.members;
}

abbrev pub events_of : Description → List EventFrame
events_of d = map (described_event d) d.events

-- ---- schedule tables (section 9.2.5)

-- a frame, a sporadic frame or an event-triggered frame
abbrev pub frame_entry : Description → Name → Entry
frame_entry d name =
    if nat_lt (frame_number d name) (length d.frames) then entries.Frame (frame_number d name)
    else (if nat_lt (sporadic_number d name) (length d.sporadic)
    then entries.Sporadic (sporadic_number d name)
    else (if nat_lt (event_number d name) (length d.events) then entries.Event (event_number d name)
    else entries.Quiet))

-- a configuration entry, which has a group, one of the two diagnostic frames, or another frame
abbrev pub described_entry : Description → TableEntry → Entry
described_entry d e =
    if e.has_group then entries.Quiet
    else (if bytes_eq e.name.text (codes "MasterReq") then entries.MasterReq
    else (if bytes_eq e.name.text (codes "SlaveResp") then entries.SlaveResp
    else frame_entry d e.name))

abbrev pub described_line : Description → TableEntry → Line
described_line d e = record { entry = described_entry d e; delay_us = e.delay.value }

abbrev pub described_table : Description → declared_table.Table → Table
described_table d t = record { name = t.name.text; lines = map (described_line d) t.entries }

abbrev pub tables_of : Description → List Table
tables_of d = map (described_table d) d.tables

-- ---- signals that tell errors in responses (section 9.2.2.2)

-- the response_error in the block of a responder's attributes
abbrev pub response_error_name : Description → ℕ → Option Name
response_error_name d n =
    option_and_then (λ block. block.response_error) (find (is_block_of d n) d.attributes)

-- whether it is a scalar signal that the node publishes
abbrev pub is_error_signal : ℕ → Signal → Bool
is_error_signal n s = s.publisher == n && not (is_array s.initial)

-- the number of the signal with this name, where it is such a one
abbrev pub error_named : Description → ℕ → Name → Option ℕ
error_named d n name =
    if option_map_or (is_error_signal n) (slice_get (signals_of d) (signal_number d name)) false
    then Some (signal_number d name) else None

abbrev pub error_number : Description → ℕ → Option ℕ
error_number d n = option_and_then (error_named d n) (response_error_name d n)

-- whether the node with this name subscribes the signal
abbrev pub subscribes : Name → declared_signal.Signal → Bool
subscribes node s = list_any (same_name node) s.subscribers

-- whether the node publishes the frame, or subscribes a signal of it
abbrev pub is_concerned : ℕ → List Bool → SignalFrame → Bool
is_concerned n subscribed f =
    f.publisher == n || list_any (λ s. slice_index_or subscribed s false) f.signals

abbrev pub is_concerned_by : ℕ → List Bool → List SignalFrame → ℕ → Bool
is_concerned_by n subscribed frames f =
    option_map_or (is_concerned n subscribed) (slice_get frames f) false

-- the numbers of the frames that concern the node
abbrev pub frames_concerning : ℕ → List Bool → List SignalFrame → List ℕ
frames_concerning n subscribed frames =
    filter (is_concerned_by n subscribed frames) (range_with_len 0 (length frames))

abbrev pub error_signal_at : Description → ℕ × Name → ℕ → ErrorSignal
error_signal_at d slave signal = record {
  node = slave.0;
  signal = signal;
  frames = frames_concerning slave.0 (map (subscribes slave.1) d.signals) (frames_of d);
}

-- the signal of a responder, with its number and its name
abbrev pub error_signal : Description → ℕ × Name → Option ErrorSignal
error_signal d slave = option_map (error_signal_at d slave) (error_number d slave.0)

-- by rising responder
abbrev pub error_signals : Description → List ErrorSignal
error_signals d = filter_map (error_signal d) (enumerate_from 1 d.slaves)

-- ---- the whole cluster, with its speed and times (sections 9.2.1 and 9.2.2)

abbrev pub parts_of : Description → Parts
parts_of d = record {
  nodes = nodes_of d;
  signals = signals_of d;
  frames = frames_of d;
  sporadic = sporadic_frames_of d;
  events = events_of d;
  tables = tables_of d;
  errors = error_signals d;
  identities = [];
  speed = d.speed.value;
  jitter_us = d.jitter.value;
  base_us = d.time_base.value;
}
