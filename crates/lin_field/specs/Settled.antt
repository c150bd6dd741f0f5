-- The plain description that a text of the field is settled to, and its warnings.
use Rattle.std.specs.Prelude.{ℕ, List, [], ◌++◌, ◌&&◌, Bool, not, map, filter_map, flat_map}
use Rattle.std.specs.Prelude.{Option, Some, None, codes, nat_eq, if◌then◌else◌}
use Rattle.std.specs.List.{starts_with}
use Rattle.std.specs.Str.{bytes_eq}
use Rattle.lin_cluster.specs.FindingsNames.{at_name}
use Rattle.lin_cluster.specs.Kinds.{finding_at}
use Rattle.lin_cluster.specs.declared.finding.Finding.{Finding}
use Rattle.lin_cluster.specs.declared.finding.FindingKind.TheVariants.{ExtraMark, HeaderLine}
use Rattle.lin_parts.specs.declared.description.Description.{Description}
use Rattle.lin_parts.specs.declared.description.Name.{Name}
use Rattle.lin_parts.specs.declared.description.Table.{Table}
use Rattle.lin_ldf.specs.declared.token.Token.{Token}
use Rattle.lin_field.specs.Attributes.{Elsewhere, elsewhere_of, settled_attributes, attribute_warnings}
use Rattle.lin_field.specs.Frames.{diagnostic_signals, kept_frame, frame_warnings}
use Rattle.lin_field.specs.Signals.{settled_signal, signal_warnings}
use Rattle.lin_field.specs.Tables.{kept_tables, table_warnings, settled_event, event_warnings}
use Rattle.lin_field.specs.Tables.{rounded_warnings}
use Rattle.lin_field.specs.Times.{all_tables, timing_warnings}
use Rattle.lin_field.specs.declared.loose.Header.{Header}
use Rattle.lin_field.specs.declared.loose.Loose.{Loose}
use Rattle.lin_field.specs.declared.loose.LooseNodes.{LooseNodes}
use Rattle.lin_field.specs.declared.loose.NodeAddress.{NodeAddress}
use Rattle.lin_field.specs.declared.normalizing.OfNodes.{OfNodes}
use Rattle.lin_field.specs.declared.field_text.FieldText.{FieldText}

-- ---- the version

-- a version that begins with 1.
abbrev pub is_old : Header → Bool
is_old h = starts_with nat_eq h.version (codes "1.")

abbrev pub tells_tables : Header → Bool
tells_tables h = not (is_old h) && not (bytes_eq h.version (codes "2.0"))

abbrev pub old_version : Header → Option (List ℕ)
old_version h = if is_old h then Some h.version else None

-- what is told of nodes outside of their blocks
abbrev pub elsewhere_by : Header → LooseNodes → List NodeAddress → Elsewhere
elsewhere_by h nodes lines = elsewhere_of nodes lines (old_version h)

abbrev pub elsewhere : Loose → Elsewhere
elsewhere l = elsewhere_by l.header l.nodes l.addresses

-- ---- the description

-- before its times: without tables
abbrev pub without_tables : Loose → Description
without_tables l = record {
  speed = l.header.speed.number;
  master = l.nodes.master;
  time_base = l.nodes.time_base.number;
  jitter = l.nodes.jitter.number;
  slaves = l.nodes.slaves;
  signals = map (settled_signal l.nodes) l.signals;
  frames = filter_map kept_frame l.frames;
  sporadic = l.sporadic;
  events = map (settled_event l.tables) l.events;
  attributes = settled_attributes (elsewhere l) l.attributes;
  tables = [];
}

abbrev pub with_kept_tables : Description → List Table → Description
with_kept_tables d ts = record d { tables = all_tables d ts }

abbrev pub normalized_description : Loose → Description
normalized_description l = with_kept_tables (without_tables l) (kept_tables l.tables)

-- the signals that frames of the text have which the description hasn't: the diagnostic ones (LIN 2.2A,
-- section 9.2.4)
abbrev pub placed_elsewhere : Loose → List Name
placed_elsewhere l = flat_map diagnostic_signals l.frames

-- ---- the warnings

-- 23 ExtraMark, 26 HeaderLine
abbrev pub header_warnings : Header → LooseNodes → List Token → List Finding
header_warnings h nodes marks =
    map (λ t. finding_at ExtraMark t.line t.column) marks ++ map (at_name HeaderLine) h.unknown
    ++ rounded_warnings h.speed ++ rounded_warnings nodes.time_base ++ rounded_warnings nodes.jitter

-- of signals and attributes
abbrev pub node_warnings : Header → LooseNodes → OfNodes → List Finding
node_warnings h nodes of_nodes =
    flat_map (signal_warnings nodes) of_nodes.signals
    ++ attribute_warnings (elsewhere_by h nodes of_nodes.addresses) of_nodes.attributes

-- all but tight slots, in the order of the steps
abbrev pub warnings_of : Loose → List Token → List Finding
warnings_of l marks =
    header_warnings l.header l.nodes marks ++ flat_map (signal_warnings l.nodes) l.signals
    ++ attribute_warnings (elsewhere l) l.attributes
    ++ flat_map (frame_warnings (is_old l.header)) l.frames
    ++ flat_map (event_warnings (tells_tables l.header) l.tables) l.events
    ++ table_warnings l.tables ++ timing_warnings (without_tables l) (kept_tables l.tables)

abbrev pub warnings : FieldText → List Finding
warnings t = warnings_of t.loose t.marks
