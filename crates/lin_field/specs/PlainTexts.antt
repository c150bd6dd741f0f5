-- A text that says no more than a plain one is settled to what the plain one describes.
use Rattle.std.specs.Prelude.{◌≡◌, ℕ, List, [], Option, Some, None, All, false, map}
use Rattle.std.specs.Prelude.{codes, nat_eq}
use Rattle.std.specs.List.{starts_with}
use Rattle.lin_cluster.specs.Findings.{IsFree}
use Rattle.lin_cluster.specs.Kinds.{finding_at}
use Rattle.lin_cluster.specs.declared.finding.FindingKind.TheVariants.{ExtraMark}
use Rattle.lin_parts.specs.declared.description.Attributes.{Attributes}
use Rattle.lin_parts.specs.declared.description.Description.{Description}
use Rattle.lin_parts.specs.declared.description.EventFrame.{EventFrame}
use Rattle.lin_parts.specs.declared.description.Frame.{Frame}
use Rattle.lin_parts.specs.declared.description.Init.{Init}
use Rattle.lin_parts.specs.declared.description.Init.TheVariants.{Scalar, Array}
use Rattle.lin_parts.specs.declared.description.Number.{Number}
use Rattle.lin_parts.specs.declared.description.Signal.{Signal}
use Rattle.lin_parts.specs.declared.description.Table.{Table}
use Rattle.lin_parts.specs.declared.description.TableEntry.{TableEntry}
use Rattle.lin_ldf.specs.declared.token.Token.{Token}
use Rattle.lin_field.specs.Order.{byte_order}
use Rattle.lin_field.specs.Settled.{normalized_description, warnings_of}
use Rattle.lin_field.specs.Tables.{is_members_name}
use Rattle.lin_field.specs.Times.{tight_slots}
use Rattle.lin_field.specs.declared.loose.RoundedDecimal.{RoundedDecimal}
use Rattle.lin_field.specs.declared.loose.Header.{Header}
use Rattle.lin_field.specs.declared.loose.Loose.{Loose}
use Rattle.lin_field.specs.declared.loose.LooseAttributes.{LooseAttributes}
use Rattle.lin_field.specs.declared.loose.LooseEntry.{LooseEntry}
use Rattle.lin_field.specs.declared.loose.LooseEvent.{LooseEvent}
use Rattle.lin_field.specs.declared.loose.LooseFrame.{LooseFrame}
use Rattle.lin_field.specs.declared.loose.LooseInit.{LooseInit}
use Rattle.lin_field.specs.declared.loose.LooseInit.TheVariants as loose
use Rattle.lin_field.specs.declared.loose.LooseNodes.{LooseNodes}
use Rattle.lin_field.specs.declared.loose.LooseSignal.{LooseSignal}
use Rattle.lin_field.specs.declared.loose.LooseTable.{LooseTable}
use Rattle.lin_field.specs.declared.loose.WideNumber.{WideNumber}

-- ---- a plain description as a text of the field says it

abbrev pub exact : Number → RoundedDecimal
exact n = record { number = n; is_rounded = false }

abbrev pub nodes_in : Description → LooseNodes
nodes_in d = record {
  master = d.master;
  time_base = exact d.time_base;
  jitter = exact d.jitter;
  slaves = d.slaves;
}

abbrev pub wide : Number → WideNumber
wide n = record { value = n.value; place = record { line = n.line; column = n.column } }

abbrev pub loose_init : Init → LooseInit
loose_init (Scalar n) = loose.Scalar (wide n)
loose_init (Array place items) = loose.Array place items

abbrev pub loose_signal : Signal → LooseSignal
loose_signal s = record {
  name = s.name;
  size = s.size;
  init = loose_init s.init;
  publisher = s.publisher;
  subscribers = s.subscribers;
}

abbrev pub loose_frame : Frame → LooseFrame
loose_frame f = record {
  name = f.name;
  id = f.id;
  publisher = f.publisher;
  size = Some f.size;
  placed = f.placed;
}

abbrev pub loose_event : EventFrame → LooseEvent
loose_event e =
    record { name = e.name; table = Some e.table; id = e.id; members = e.members }

abbrev pub loose_block : Attributes → LooseAttributes
loose_block a = record { block = a; initial_nad = None }

abbrev pub loose_entry : TableEntry → LooseEntry
loose_entry e = record { name = e.name; has_group = e.has_group; delay = exact e.delay }

abbrev pub loose_table : Table → LooseTable
loose_table t = record { name = t.name; entries = map loose_entry t.entries }

-- with these versions of its header
abbrev pub header_in : List ℕ → Option (List ℕ) → Description → Header
header_in version language d = record {
  version = version;
  language = language;
  speed = exact d.speed;
  is_big_endian = false;
  unknown = [];
}

abbrev pub as_loose : List ℕ → Option (List ℕ) → Description → Loose
as_loose version language d = record {
  header = header_in version language d;
  nodes = nodes_in d;
  signals = map loose_signal d.signals;
  frames = map loose_frame d.frames;
  sporadic = d.sporadic;
  events = map loose_event d.events;
  attributes = map loose_block d.attributes;
  addresses = [];
  tables = map loose_table d.tables;
}

-- ---- the law

-- no event-triggered frame names what no WORD is
abbrev pub NamesTables : Description → Type 0
NamesTables d = All (λ e. is_members_name e.table ≡ false) d.events

-- it is settled to the description itself, and nothing is told but marks that are left out
pub record StaysPlain (l : Loose) (d : Description) : Type 0 where
  pub description : normalized_description l ≡ d
  pub warnings : (marks : List Token)
      → warnings_of l marks ≡ map (λ t. finding_at ExtraMark t.line t.column) marks
  pub byte_order : byte_order l ≡ []
  pub tight : tight_slots d ≡ []

abbrev pub PlainTextsStay : Type 0
PlainTextsStay =
    (version : List ℕ) (language : Option (List ℕ)) (d : Description)
    → starts_with nat_eq version (codes "1.") ≡ false → NamesTables d → IsFree d
    → StaysPlain (as_loose version language d) d
