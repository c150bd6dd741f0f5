-- Sets of names, and where the names of a description stand.
use Rattle.std.specs.Prelude.{◌≡◌, ℕ, List, Bool, is_some, not, ◌==◌, ◌&&◌, ◌||◌}
use Rattle.std.specs.List.{list_any}
use Rattle.std.specs.Str.{bytes_eq}
use Rattle.indexmap.specs.IndexMap.{IndexMap, get_by}
use denote.Ref.{Bor}
use Rattle.lin_cluster.specs.Described.{subscribes}
use Rattle.lin_cluster.specs.FindingsNames.{carries_frame, is_diagnostic, same_name}
use Rattle.lin_cluster.specs.Names.{NumbersFirst}
use Rattle.lin_parts.specs.declared.description.Description.{Description}
use Rattle.lin_parts.specs.declared.description.Frame.{Frame}
use Rattle.lin_parts.specs.declared.description.Name.{Name}
use Rattle.lin_parts.specs.declared.description.Table.{Table}
use Rattle.lin_parts.specs.declared.description.TableEntry.{TableEntry}

-- whether a set has this text
abbrev pub has_text : {V S : Type 0} → IndexMap (Bor (List ℕ)) V S → List ℕ → Bool
has_text names q = is_some (get_by (λ k. bytes_eq q k.now) names)

-- some of these names are this text
abbrev pub is_among_names : List Name → List ℕ → Bool
is_among_names names q = list_any (λ n. bytes_eq n.text q) names

-- ---- signals and frames of this name (LIN 2.2A, section 9.2.4)

-- a frame places the signal: one of the description, or one outside of it, which places signals of these
-- names
abbrev pub is_placed : Description → List Name → List ℕ → Bool
is_placed d elsewhere q =
    list_any (λ f. list_any (λ p. bytes_eq p.signal.text q) f.placed) d.frames
    || is_among_names elsewhere q

-- a sporadic or an event-triggered frame lists the frame
abbrev pub is_member_name : Description → List ℕ → Bool
is_member_name d q =
    list_any (λ f. is_among_names f.members q) d.sporadic || list_any (λ e. is_among_names e.members q) d.events

-- ---- schedule tables (section 9.2.5)

abbrev pub has_dot : List ℕ → Bool
has_dot text = list_any (λ c. c == 0x2E) text

-- a table of the text; those that settling a text of the field adds have names with a dot, which no
-- word has
abbrev pub is_of_text : Table → Bool
is_of_text t = not (has_dot t.name.text)

-- an entry for a frame of this name, of whatever kind
abbrev pub is_entry_for : List ℕ → TableEntry → Bool
is_entry_for q e = carries_frame e && bytes_eq e.name.text q

abbrev pub is_scheduled : Description → List ℕ → Bool
is_scheduled d q = list_any (λ t. is_of_text t && list_any (is_entry_for q) t.entries) d.tables

-- one of the two diagnostic frames
abbrev pub is_diagnostic_entry : TableEntry → Bool
is_diagnostic_entry e = not e.has_group && is_diagnostic e.name

abbrev pub has_diagnostics : Description → Bool
has_diagnostics d = list_any (λ t. is_of_text t && list_any is_diagnostic_entry t.entries) d.tables

-- an unconditional frame has this name
abbrev pub is_frame : Description → List ℕ → Bool
is_frame d q = list_any (λ f. bytes_eq f.name.text q) d.frames

-- the table has an entry for the frame of this name, of whatever kind
abbrev pub has_entry : Table → List ℕ → Bool
has_entry t q = list_any (is_entry_for q) t.entries

-- it has an entry for an event-triggered frame, or a sporadic one, that lists the frame
abbrev pub has_event_of : Description → Table → List ℕ → Bool
has_event_of d t q = list_any (λ v. has_entry t v.name.text && is_among_names v.members q) d.events

abbrev pub has_sporadic_of : Description → Table → List ℕ → Bool
has_sporadic_of d t q = list_any (λ f. has_entry t f.name.text && is_among_names f.members q) d.sporadic

-- it resolves the collisions of an event-triggered frame
abbrev pub is_resolving : Description → Table → Bool
is_resolving d t = list_any (λ v. same_name v.table t.name) d.events

-- ---- nodes (section 9.2.2.2)

-- a block of attributes of the node of this name tells an address
abbrev pub is_addressed : Description → List ℕ → Bool
is_addressed d q =
    list_any (λ a. is_some a.configured_nad && bytes_eq a.node.text q) d.attributes

-- the node subscribes the signal of this name
abbrev pub is_subscribed : Description → Name → List ℕ → Bool
is_subscribed d node q = list_any (λ s. subscribes node s && bytes_eq s.name.text q) d.signals

-- the node publishes the frame, or subscribes a signal of it; by the names of the latter
abbrev pub concerns_by : (List ℕ → Bool) → Name → Frame → Bool
concerns_by subscribed node f =
    same_name f.publisher node || list_any (λ p. subscribed p.signal.text) f.placed

abbrev pub frames_by : (List ℕ → Bool) → Description → Name → List ℕ → Bool
frames_by subscribed d node q =
    list_any (λ f. concerns_by subscribed node f && bytes_eq f.name.text q) d.frames

-- a frame of the node has this name
abbrev pub is_frame_of : Description → Name → List ℕ → Bool
is_frame_of d node q = frames_by (is_subscribed d node) d node q

-- some of these names are in a set
abbrev pub has_any : (List ℕ → Bool) → List Name → Bool
has_any set members = list_any (λ m. set m.text) members

-- a sporadic or event-triggered frame of this name lists some frame of a set
abbrev pub lists_by : (List ℕ → Bool) → Description → List ℕ → Bool
lists_by set d q =
    list_any (λ f. has_any set f.members && bytes_eq f.name.text q) d.sporadic
    || list_any (λ e. has_any set e.members && bytes_eq e.name.text q) d.events

-- the node has a frame of this name, of whatever kind
abbrev pub processes : Description → Name → List ℕ → Bool
processes d node q = is_frame_of d node q || lists_by (is_frame_of d node) d q

-- ---- what is kept of a description

pub record AreUses {T U V W X Y Z : Type 0} (d : Description)
    (listed : IndexMap (Bor (List ℕ)) X T)
    (scheduled : IndexMap (Bor (List ℕ)) X U) (addressed : IndexMap (Bor (List ℕ)) X V)
    (signals : IndexMap (Bor (List ℕ)) ℕ W) (frames : IndexMap (Bor (List ℕ)) X Y)
    (tables : IndexMap (Bor (List ℕ)) ℕ Z) (diagnostics : Bool) : Type 0 where
  pub listed_names : (q : List ℕ) → has_text listed q ≡ is_member_name d q
  pub scheduled_names : (q : List ℕ) → has_text scheduled q ≡ is_scheduled d q
  pub addressed_names : (q : List ℕ) → has_text addressed q ≡ is_addressed d q
  pub signal_numbers : NumbersFirst (λ s. s.name) d.signals signals
  pub frame_names : (q : List ℕ) → has_text frames q ≡ is_frame d q
  pub table_numbers : NumbersFirst (λ t. t.name) d.tables tables
  pub diagnostic_entries : diagnostics ≡ has_diagnostics d
