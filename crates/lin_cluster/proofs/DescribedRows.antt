-- Worked examples of the cluster that a description says: lights of the commander, and keys of two
-- responders that share an event-triggered frame.
use Rattle.std.proofs.Common.{◌≡◌, ℕ, List, [], ◌∷◌, ◌++◌, true, false, refl}
use Rattle.std.specs.Prelude.{codes, drop, Some, None, map, slice_index_or}
use Rattle.lin_frame.specs.declared.sums.SumKind.{SumKind}
use Rattle.lin_frame.specs.declared.sums.SumKind.TheVariants.{Classic, Enhanced}
use Rattle.lin_frame.specs.declared.value.Value.TheVariants as values
use Rattle.lin_parts.specs.declared.description.Attributes.{Attributes}
use Rattle.lin_parts.specs.declared.description.Description.{Description}
use Rattle.lin_parts.specs.declared.description.EventFrame as declared_event
use Rattle.lin_parts.specs.declared.description.Frame as declared_frame
use Rattle.lin_parts.specs.declared.description.Init.{Init}
use Rattle.lin_parts.specs.declared.description.Init.TheVariants as inits
use Rattle.lin_parts.specs.declared.description.Name.{Name}
use Rattle.lin_parts.specs.declared.description.Number.{Number}
use Rattle.lin_parts.specs.declared.description.PlacedSignal.{PlacedSignal}
use Rattle.lin_parts.specs.declared.description.Signal as declared_signal
use Rattle.lin_parts.specs.declared.description.Table as declared_table
use Rattle.lin_parts.specs.declared.description.TableEntry.{TableEntry}
use Rattle.lin_parts.specs.Cluster.{frame_of, line_of}
use Rattle.lin_cluster.specs.Described.{parts_of, nodes_of, described_signal, signals_of, frames_of, sporadic_frames_of, events_of, error_signals, frame_number, node_number}
use Rattle.lin_cluster.specs.Models.{is_version_1}
use Rattle.lin_parts.specs.declared.parts.Entry.TheVariants.{Frame, Sporadic as SporadicEntry, Event, SlaveResp, Quiet}
use Rattle.lin_parts.specs.declared.parts.SignalFrame.{SignalFrame}

abbrev name : List ℕ → Name
name text = record { text = text; line = 1; column = 1 }

abbrev number : ℕ → Number
number value = record { value = value; line = 1; column = 1 }

abbrev signal : List ℕ → ℕ → Init → List ℕ → declared_signal.Signal
signal text size init publisher = record { name = name text; size = number size; init = init; publisher = name publisher; subscribers = [] }

abbrev placed : List ℕ → ℕ → PlacedSignal
placed text offset = record { signal = name text; offset = number offset }

abbrev frame : List ℕ → ℕ → List ℕ → List PlacedSignal → declared_frame.Frame
frame text id publisher places = record { name = name text; id = number id; publisher = name publisher; size = number 2; placed = places }

abbrev block : List ℕ → ℕ → Attributes
block node nad = record { node = name node; protocol = None; configured_nad = Some (number nad); response_error = None }

abbrev entry : List ℕ → ℕ → TableEntry
entry text delay = record { name = name text; has_group = false; delay = number delay }

abbrev grouped : List ℕ → ℕ → TableEntry
grouped text delay = record { name = name text; has_group = true; delay = number delay }

abbrev keys : declared_event.EventFrame
keys = record { name = name (codes "Keys"); table = name (codes "Resolve"); id = number 4; members = name (codes "LeftKey") ∷ name (codes "RightKey") ∷ [] }

abbrev main_table : declared_table.Table
main_table = record {
  name = name (codes "Main");
  entries = entry (codes "Spor") 10000 ∷ entry (codes "Keys") 20000 ∷ entry (codes "RightKey") 30000 ∷ grouped (codes "Light") 40000 ∷ entry (codes "SlaveResp") 50000 ∷ [];
}

abbrev body : Description
body = record {
  speed = number 19200;
  master = name (codes "cem");
  time_base = number 5000;
  jitter = number 100;
  slaves = name (codes "lsm") ∷ name (codes "rsm") ∷ [];
  signals = signal (codes "level") 4 (inits.Scalar (number 2)) (codes "cem") ∷ signal (codes "mode") 10 (inits.Scalar (number 0x155)) (codes "cem") ∷ signal (codes "lkey") 8 (inits.Array (record { line = 1; column = 1 }) (number 7 ∷ [])) (codes "lsm") ∷ signal (codes "rkey") 8 (inits.Scalar (number 0)) (codes "rsm") ∷ [];
  frames = frame (codes "Light") 0 (codes "cem") (placed (codes "level") 0 ∷ placed (codes "mode") 4 ∷ []) ∷ frame (codes "LeftKey") 2 (codes "lsm") (placed (codes "lkey") 8 ∷ []) ∷ frame (codes "RightKey") 3 (codes "rsm") (placed (codes "rkey") 8 ∷ []) ∷ [];
  sporadic = record { name = name (codes "Spor"); members = name (codes "Light") ∷ [] } ∷ [];
  events = keys ∷ [];
  attributes = block (codes "rsm") 2 ∷ block (codes "cem") 9 ∷ block (codes "lsm") 1 ∷ block (codes "lsm") 3 ∷ [];
  tables = main_table ∷ record { name = name (codes "Resolve"); entries = entry (codes "LeftKey") 10000 ∷ [] } ∷ [];
}

-- the first block with a responder's name is its own, and the commander has no address
nodes-row : nodes_of body ≡ record { name = codes "cem"; nad = None } ∷ record { name = codes "lsm"; nad = Some 1 } ∷ record { name = codes "rsm"; nad = Some 2 } ∷ []
nodes-row = refl

signal-row : slice_index_or (signals_of body) 2 (record { name = []; publisher = 0; subscribers = []; size = 1; initial = values.Scalar 0 }) ≡ record { name = codes "lkey"; publisher = 1; subscribers = []; size = 8; initial = values.Bytes (7 ∷ []) }
signal-row = refl

-- the subscribers are in the order of the description
subscribers-row : (described_signal body (record (signal (codes "level") 4 (inits.Scalar (number 2)) (codes "lsm")) { subscribers = name (codes "rsm") ∷ name (codes "cem") ∷ name (codes "rsm") ∷ [] })).subscribers ≡ 2 ∷ 0 ∷ 2 ∷ []
subscribers-row = refl

abbrev light : SignalFrame
light = record {
  name = codes "Light";
  pid = 0x80;
  model = Enhanced;
  publisher = 0;
  layout = record { len = 2; pid = None; places = record { offset = 0; size = 4; array = false } ∷ record { offset = 4; size = 10; array = false } ∷ [] };
  signals = 0 ∷ 1 ∷ [];
}

frame-row : frame_of (parts_of body) 0 ≡ light
frame-row = refl

abbrev left_key : SignalFrame
left_key = record {
  name = codes "LeftKey";
  pid = 0x42;
  model = Enhanced;
  publisher = 1;
  layout = record { len = 2; pid = Some 0x42; places = record { offset = 8; size = 8; array = true } ∷ [] };
  signals = 2 ∷ [];
}

-- an event-triggered frame lists it
listed-frame-row : frame_of (parts_of body) 1 ≡ left_key
listed-frame-row = refl

sporadic-row : sporadic_frames_of body ≡ record { name = codes "Spor"; frames = 0 ∷ [] } ∷ []
sporadic-row = refl

events-row : events_of body ≡ record { name = codes "Keys"; pid = 0xC4; model = Enhanced; table = 1; frames = 1 ∷ 2 ∷ [] } ∷ []
events-row = refl

sporadic-entry-row : line_of (parts_of body) 0 0 ≡ record { entry = SporadicEntry 0; delay_us = 10000 }
sporadic-entry-row = refl

event-entry-row : line_of (parts_of body) 0 1 ≡ record { entry = Event 0; delay_us = 20000 }
event-entry-row = refl

frame-entry-row : line_of (parts_of body) 0 2 ≡ record { entry = Frame 2; delay_us = 30000 }
frame-entry-row = refl

-- an entry with a group is silent, whatever frame has its name
grouped-entry-row : line_of (parts_of body) 0 3 ≡ record { entry = Quiet; delay_us = 40000 }
grouped-entry-row = refl

diagnostic-entry-row : line_of (parts_of body) 0 4 ≡ record { entry = SlaveResp; delay_us = 50000 }
diagnostic-entry-row = refl

-- a name that nothing has
unknown-frame-row : frame_number body (name (codes "ghost")) ≡ 3
unknown-frame-row = refl

unknown-node-row : node_number body (name (codes "ghost")) ≡ 3
unknown-node-row = refl

-- ---- signals that tell errors

abbrev telling : List ℕ → List ℕ → Attributes
telling node signal = record (block node 1) { response_error = Some (name signal) }

-- a scalar signal of its own, of which an array, another's and a name of nothing are none
abbrev tellers : Description
tellers = record body {
  signals = (record (signal (codes "level") 4 (inits.Scalar (number 2)) (codes "cem")) { subscribers = name (codes "lsm") ∷ name (codes "rsm") ∷ [] }) ∷ drop 1 body.signals;
  attributes = telling (codes "cem") (codes "level") ∷ telling (codes "lsm") (codes "lkey") ∷ telling (codes "rsm") (codes "rkey") ∷ [];
}

error-signals-row : error_signals tellers ≡ record { node = 2; signal = 3; frames = 0 ∷ 2 ∷ [] } ∷ []
error-signals-row = refl

no-error-signals-row : error_signals (record tellers { attributes = telling (codes "rsm") (codes "level") ∷ telling (codes "lsm") (codes "ghost") ∷ [] }) ≡ []
no-error-signals-row = refl

-- ---- checksum models: those of the frames, and after them those of the event-triggered ones

abbrev of_version : List ℕ → List ℕ → Attributes
of_version node version = record { node = name node; protocol = Some version; configured_nad = None; response_error = None }

abbrev models : List Attributes → List declared_signal.Signal → List SumKind
models blocks signals =
    let d = record body { attributes = blocks; signals = signals }
    in map (λ f. f.model) (frames_of d) ++ map (λ e. e.model) (events_of d)

-- the first block with a node's name tells its version, and one of a name that is no node's tells
-- nothing
publisher-of-lin-1-row : models (of_version (codes "ghost") (codes "1.3") ∷ of_version (codes "lsm") (codes "1.3") ∷ of_version (codes "lsm") (codes "2.2") ∷ []) body.signals ≡ Enhanced ∷ Classic ∷ Enhanced ∷ Classic ∷ []
publisher-of-lin-1-row = refl

-- a node that subscribes a signal of the commander's frame
subscriber-of-lin-1-row : models (of_version (codes "rsm") (codes "1.2") ∷ []) ((record (signal (codes "mode") 10 (inits.Scalar (number 0x155)) (codes "cem")) { subscribers = name (codes "lsm") ∷ name (codes "rsm") ∷ [] }) ∷ []) ≡ Classic ∷ Enhanced ∷ Classic ∷ Enhanced ∷ []
subscriber-of-lin-1-row = refl

versions-row : map is_version_1 (codes "1.3" ∷ codes "1.0" ∷ codes "1." ∷ codes "1.x" ∷ codes "1" ∷ codes " 1.3" ∷ codes "01.3" ∷ codes "0x1" ∷ codes "2.2" ∷ codes "11.3" ∷ codes "" ∷ []) ≡ true ∷ true ∷ true ∷ true ∷ false ∷ false ∷ false ∷ false ∷ false ∷ false ∷ false ∷ []
versions-row = refl
