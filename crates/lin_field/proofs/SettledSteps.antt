-- The steps by which a text of the field is settled.
use Rattle.std.proofs.Common.{◌≡◌, ℕ, Bool, List, [], ◌++◌, map, ap, ◌∙◌}
use Rattle.std.specs.Prelude.{Option, filter_map}
use Rattle.std.specs.List.{flat_map}
use Rattle.lin_cluster.specs.declared.finding.Finding.{Finding}
use Rattle.lin_parts.specs.declared.description.Attributes.{Attributes}
use Rattle.lin_parts.specs.declared.description.Description.{Description}
use Rattle.lin_parts.specs.declared.description.EventFrame.{EventFrame}
use Rattle.lin_parts.specs.declared.description.Frame.{Frame}
use Rattle.lin_parts.specs.declared.description.Signal.{Signal}
use Rattle.lin_parts.specs.declared.description.Table.{Table}
use Rattle.lin_ldf.specs.declared.token.Token.{Token}
use Rattle.lin_field.specs.Attributes.{elsewhere_of, settled_attributes, attribute_warnings}
use Rattle.lin_field.specs.Frames.{frame_warnings, kept_frame}
use Rattle.lin_field.specs.Settled.{elsewhere, header_warnings, is_old, tells_tables, without_tables, warnings_of}
use Rattle.lin_field.specs.Signals.{settled_signal, signal_warnings}
use Rattle.lin_field.specs.Tables.{event_warnings, kept_tables, settled_event, table_warnings}
use Rattle.lin_field.specs.Times.{timing_warnings}
use Rattle.lin_field.specs.declared.loose.Loose.{Loose}
use Rattle.lin_field.specs.declared.loose.LooseNodes.{LooseNodes}
use Rattle.lin_field.specs.declared.loose.LooseTable.{LooseTable}
use Rattle.lin_field.specs.declared.loose.NodeAddress.{NodeAddress}

pub same-elsewhere : (n m : LooseNodes) (ls ms : List NodeAddress) (v w : Option (List ℕ)) → n ≡ m → ls ≡ ms → v ≡ w → elsewhere_of n ls v ≡ elsewhere_of m ms w
same-elsewhere n m ls ms v w a b c =
    ap (λ x. elsewhere_of x ls v) a ∙ ap (λ xs. elsewhere_of m xs v) b ∙ ap (elsewhere_of m ms) c

abbrev described : Loose → List Signal → List Frame → List EventFrame → List Attributes → List Table → Description
described l signals frames events attributes tables = record {
  speed = l.header.speed.number;
  master = l.nodes.master;
  time_base = l.nodes.time_base.number;
  jitter = l.nodes.jitter.number;
  slaves = l.nodes.slaves;
  signals = signals;
  frames = frames;
  sporadic = l.sporadic;
  events = events;
  attributes = attributes;
  tables = tables;
}

-- the description before its times, part by part
pub same-untimed : (l : Loose) (signals : List Signal) (frames : List Frame) (events : List EventFrame) (attributes : List Attributes) (tables : List Table)
    → signals ≡ map (settled_signal l.nodes) l.signals → frames ≡ filter_map kept_frame l.frames → events ≡ map (settled_event l.tables) l.events
    → attributes ≡ settled_attributes (elsewhere l) l.attributes → tables ≡ [] → described l signals frames events attributes tables ≡ without_tables l
same-untimed l signals frames events attributes tables s f e a t =
    let signals-is = map (settled_signal l.nodes) l.signals in
    let frames-is = filter_map kept_frame l.frames in
    let events-is = map (settled_event l.tables) l.events in
    let attributes-is = settled_attributes (elsewhere l) l.attributes in
    ap (λ x. described l x frames events attributes tables) s ∙ ap (λ x. described l signals-is x events attributes tables) f
    ∙ ap (λ x. described l signals-is frames-is x attributes tables) e ∙ ap (λ x. described l signals-is frames-is events-is x tables) a
    ∙ ap (described l signals-is frames-is events-is attributes-is) t

-- the warnings, step by step
pub all-warned : (l : Loose) (marks seen : List Token) (old told : Bool) (tables : List LooseTable) (d : Description) (ts : List Table) (w0 w1 w2 w3 w4 w5 : List Finding)
    → w0 ≡ header_warnings l.header l.nodes seen → seen ≡ marks
    → w1 ≡ w0 ++ flat_map (signal_warnings l.nodes) l.signals ++ attribute_warnings (elsewhere l) l.attributes
    → w2 ≡ w1 ++ flat_map (frame_warnings old) l.frames → old ≡ is_old l.header
    → w3 ≡ w2 ++ flat_map (event_warnings told tables) l.events → told ≡ tells_tables l.header → tables ≡ l.tables
    → w4 ≡ w3 ++ table_warnings l.tables
    → w5 ≡ w4 ++ timing_warnings d ts → d ≡ without_tables l → ts ≡ kept_tables l.tables
    → w5 ≡ warnings_of l marks
all-warned l marks seen old told tables d ts w0 w1 w2 w3 w4 w5 a seen-is b c old-is e told-is tables-is f g d-is ts-is =
    let header : w0 ≡ header_warnings l.header l.nodes marks = a ∙ ap (header_warnings l.header l.nodes) seen-is in
    let nodes = b ∙ ap (λ w. w ++ flat_map (signal_warnings l.nodes) l.signals ++ attribute_warnings (elsewhere l) l.attributes) header in
    let frames = c ∙ ap (λ o. w1 ++ flat_map (frame_warnings o) l.frames) old-is ∙ ap (λ w. w ++ flat_map (frame_warnings (is_old l.header)) l.frames) nodes in
    let events =
    e ∙ ap (λ t. w2 ++ flat_map (event_warnings t tables) l.events) told-is ∙ ap (λ ts. w2 ++ flat_map (event_warnings (tells_tables l.header) ts) l.events) tables-is
    ∙ ap (λ w. w ++ flat_map (event_warnings (tells_tables l.header) l.tables) l.events) frames in
    let kept = f ∙ ap (λ w. w ++ table_warnings l.tables) events in
    g ∙ ap (λ x. w4 ++ timing_warnings x ts) d-is ∙ ap (λ xs. w4 ++ timing_warnings (without_tables l) xs) ts-is
    ∙ ap (λ w. w ++ timing_warnings (without_tables l) (kept_tables l.tables)) kept
