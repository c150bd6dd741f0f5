-- The parts of a cluster by their numbers. A number out of range gives a part that breaks no rule
-- of clusters.
use Rattle.std.specs.Prelude.{ℕ, ◌==◌, Bool, List, [], ◌∷◌, filter, length, slice_index_or, position}
use Rattle.std.specs.Prelude.{Option, None, codes, flat_map}
use Rattle.std.specs.List.{list_any, range_with_len}
use Rattle.std.specs.Option.{option_map_or}
use Rattle.std.specs.Str.{bytes_eq}
use Rattle.lin_frame.specs.declared.sums.SumKind.TheVariants.{Enhanced}
use Rattle.lin_frame.specs.declared.value.Value.TheVariants.{Scalar}
use Rattle.lin_parts.specs.declared.parts.Entry.{Entry}
use Rattle.lin_parts.specs.declared.parts.Entry.TheVariants.{Frame, Sporadic, Event}
use Rattle.lin_parts.specs.declared.parts.Entry.TheVariants.{MasterReq}
use Rattle.lin_parts.specs.declared.parts.Entry.TheVariants.{SlaveResp, Fixed, Quiet}
use Rattle.lin_parts.specs.declared.parts.Identity.{Identity}
use Rattle.lin_parts.specs.declared.parts.Node.{Node}
use Rattle.lin_parts.specs.declared.parts.Signal.{Signal}
use Rattle.lin_parts.specs.declared.parts.SignalFrame.{SignalFrame}
use Rattle.lin_parts.specs.declared.parts.SporadicFrame.{SporadicFrame}
use Rattle.lin_parts.specs.declared.parts.EventFrame.{EventFrame}
use Rattle.lin_parts.specs.declared.parts.Line.{Line}
use Rattle.lin_parts.specs.declared.parts.Table.{Table}
use Rattle.lin_parts.specs.declared.parts.Parts.{Parts}
use Rattle.lin_parts.specs.Services.{service_name, response_by}

-- how many nodes there are: their numbers are those below this
abbrev pub nodes : Parts → ℕ
nodes c = length c.nodes

abbrev pub node_of : Parts → ℕ → Node
node_of c n = slice_index_or c.nodes n (record { name = []; nad = None })

-- the diagnostic address of a node
abbrev pub nad : Parts → ℕ → Option ℕ
nad c n = (node_of c n).nad

-- out of range: a signal of one bit
abbrev pub signal_of : Parts → ℕ → Signal
signal_of c s =
    slice_index_or c.signals s
    (record { name = []; publisher = 0; subscribers = []; size = 1; initial = Scalar 0 })

-- out of range: a frame of identifier 0, whose protected identifier is 80
abbrev pub frame_of : Parts → ℕ → SignalFrame
frame_of c f =
    slice_index_or c.frames f
    (record {
      name = [];
      pid = 0x80;
      model = Enhanced;
      publisher = 0;
      layout = record { len = 1; pid = None; places = [] };
      signals = [];
    })

-- whether a frame has a signal
abbrev pub has_signal : Parts → ℕ → ℕ → Bool
has_signal c s f = list_any (λ x. x == s) (frame_of c f).signals

-- the frames that have a signal, by rising numbers
abbrev pub frames_with : Parts → ℕ → List ℕ
frames_with c s = filter (has_signal c s) (range_with_len 0 (length c.frames))

-- a sporadic frame with its name, and its frames
abbrev pub named_sporadic : Parts → ℕ → SporadicFrame
named_sporadic c k = slice_index_or c.sporadic k (record { name = []; frames = [] })

abbrev pub sporadic_of : Parts → ℕ → List ℕ
sporadic_of c k = (named_sporadic c k).frames

-- out of range: an event-triggered frame of identifier 0
abbrev pub event_of : Parts → ℕ → EventFrame
event_of c e =
    slice_index_or c.events e
    (record { name = []; pid = 0x80; model = Enhanced; table = 0; frames = [] })

-- a table with its name, and its lines
abbrev pub named_table : Parts → ℕ → Table
named_table c t = slice_index_or c.tables t (record { name = []; lines = [] })

abbrev pub table_of : Parts → ℕ → List Line
table_of c t = (named_table c t).lines

-- an entry of a table, with its delay
abbrev pub line_of : Parts → ℕ → ℕ → Line
line_of c t e = slice_index_or (table_of c t) e (record { entry = Quiet; delay_us = 1 })

-- the number of the first table with this name
abbrev pub first_table : Parts → List ℕ → Option ℕ
first_table c name = position (λ table. bytes_eq table.name name) c.tables

-- the names of frames of each kind
abbrev pub frame_name : Parts → ℕ → List ℕ
frame_name c f = (frame_of c f).name

abbrev pub sporadic_name : Parts → ℕ → List ℕ
sporadic_name c k = (named_sporadic c k).name

abbrev pub event_name : Parts → ℕ → List ℕ
event_name c e = (event_of c e).name

-- the name of what an entry of a table is for (LIN 2.2A, section 9.2.5): of a configuration entry that
-- of its service, and `-` if it is silent
abbrev pub entry_name : Parts → Entry → List ℕ
entry_name c (Frame f) = frame_name c f
entry_name c (Sporadic k) = sporadic_name c k
entry_name c (Event e) = event_name c e
entry_name c MasterReq = codes "MasterReq"
entry_name c SlaveResp = codes "SlaveResp"
entry_name c (Fixed b) = service_name b
entry_name c Quiet = codes "-"

-- what kind of frame an entry is for (ISO 17987-3, frame slots)
abbrev pub entry_kind : Entry → List ℕ
entry_kind (Frame f) = codes "unconditional"
entry_kind (Sporadic k) = codes "sporadic"
entry_kind (Event e) = codes "event"
entry_kind MasterReq = codes "request"
entry_kind SlaveResp = codes "response"
entry_kind (Fixed b) = codes "configuration"
entry_kind Quiet = codes "configuration"

-- the response of a responder to a request of node configuration (LIN 2.2A, section 4.2)
abbrev pub response_of : Parts → Identity → List ℕ → Option (List ℕ)
response_of c i b = option_map_or (λ own. response_by i own b) (nad c i.node) None

-- the responders that respond to a request, each with its response
abbrev pub responses : Parts → List ℕ → List (ℕ × List ℕ)
responses c b =
    flat_map (λ i. option_map_or (λ r. (i.node, r) ∷ []) (response_of c i b) []) c.identities
