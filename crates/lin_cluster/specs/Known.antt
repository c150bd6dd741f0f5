-- What is known of a description: its declarations, found by their names, and what is worked out of
-- each of them once.
use Rattle.std.specs.Prelude.{◌≡◌, ℕ, List, Option, Bool, map}
use Rattle.std.specs.List.{list_any}
use Rattle.std.specs.Option.{option_map, option_or}
use Rattle.lin_parts.specs.declared.parts.Signal as cluster
use Rattle.lin_cluster.specs.Described.{signals_of}
use Rattle.lin_cluster.specs.FindingsNames.{frame_named, sporadic_named, event_named}
use Rattle.lin_cluster.specs.FindingsNames.{is_event_entry}
use Rattle.lin_cluster.specs.FindingsNodes.{number_of_node}
use Rattle.lin_cluster.specs.Sizes.{is_array_init}
use Rattle.lin_cluster.specs.Members.{is_in_front}
use Rattle.lin_cluster.specs.Slots.{good_size, greatest_size, first_size}
use Rattle.lin_cluster.specs.Models.{has_version_1, has_lin_1, frame_model}
use Rattle.lin_cluster.specs.Names.{NumbersFirst}
use Rattle.indexmap.specs.IndexMap.{IndexMap}
use denote.Ref.{Bor}
use Rattle.lin_cluster.specs.declared.findings.facts.FrameFacts.{FrameFacts}
use Rattle.lin_cluster.specs.declared.findings.facts.SignalFacts.{SignalFacts}
use Rattle.lin_parts.specs.declared.description.Description.{Description}
use Rattle.lin_parts.specs.declared.description.Frame.{Frame}
use Rattle.lin_parts.specs.declared.description.Name.{Name}
use Rattle.lin_parts.specs.declared.description.Signal.{Signal}

-- the numbers of the responders, and of the blocks of attributes, by the names of nodes
abbrev pub AreNodeNumbers : {S T : Type 0} → Description → IndexMap (Bor (List ℕ)) ℕ S
    → IndexMap (Bor (List ℕ)) ℕ T → Type 0
AreNodeNumbers d slaves blocks =
    NumbersFirst (λ n. n) d.slaves slaves × NumbersFirst (λ b. b.node) d.attributes blocks

-- the numbers of the frames of the three kinds
abbrev pub AreFrameNumbers : {S T U : Type 0} → Description → IndexMap (Bor (List ℕ)) ℕ S
    → IndexMap (Bor (List ℕ)) ℕ T → IndexMap (Bor (List ℕ)) ℕ U → Type 0
AreFrameNumbers d frames sporadic events =
    NumbersFirst (λ f. f.name) d.frames frames
    × NumbersFirst (λ f. f.name) d.sporadic sporadic
    × NumbersFirst (λ e. e.name) d.events events

-- and those of all that names name, with whether a node of LIN 1.x may be there
abbrev pub IsKnown : {S T U V W X Y : Type 0} → Description → IndexMap (Bor (List ℕ)) ℕ S
    → IndexMap (Bor (List ℕ)) ℕ T → IndexMap (Bor (List ℕ)) ℕ U → IndexMap (Bor (List ℕ)) ℕ V
    → IndexMap (Bor (List ℕ)) ℕ W → IndexMap (Bor (List ℕ)) ℕ X → IndexMap (Bor (List ℕ)) ℕ Y
    → Bool → Type 0
IsKnown d slaves blocks signals frames sporadic events tables told =
    AreNodeNumbers d slaves blocks
    × NumbersFirst (λ s. s.name) d.signals signals
    × AreFrameNumbers d frames sporadic events
    × NumbersFirst (λ t. t.name) d.tables tables
    × (told ≡ has_version_1 d)

-- the signals that a description says, and their numbers
abbrev pub AreNumberedSignals : {S : Type 0} → Description → List cluster.Signal
    → IndexMap (Bor (List ℕ)) ℕ S → Type 0
AreNumberedSignals d signals numbers =
    (signals ≡ signals_of d) × NumbersFirst (λ s. s.name) d.signals numbers

-- what is asked of a signal wherever a frame places it
abbrev pub signal_facts : Description → Signal → SignalFacts
signal_facts d s = record {
  size = s.size.value;
  is_array = is_array_init s.init;
  publisher = number_of_node d s.publisher;
  is_read_by_lin_1 = has_lin_1 d s;
}

abbrev pub AreSignalFacts : Description → List SignalFacts → Type 0
AreSignalFacts d facts = facts ≡ map (signal_facts d) d.signals

-- what is asked of a frame wherever a member or an entry names it
abbrev pub frame_facts : Description → Frame → FrameFacts
frame_facts d f = record {
  size = f.size.value;
  publisher = number_of_node d f.publisher;
  has_front = list_any (is_in_front d) f.placed;
  model = frame_model d f;
}

abbrev pub AreFrameFacts : Description → List FrameFacts → Type 0
AreFrameFacts d facts = facts ≡ map (frame_facts d) d.frames

-- what is known of the frame with a name
abbrev pub facts_named : Description → Name → Option FrameFacts
facts_named d n = option_map (frame_facts d) (frame_named d n)

-- the sizes of each sporadic and each event-triggered frame
abbrev pub AreSizes : Description → List (Option ℕ) → List (Option ℕ) → Type 0
AreSizes d sporadic events =
    (sporadic ≡ map (λ f. greatest_size d f.members) d.sporadic)
    × (events ≡ map (λ e. first_size d e.members) d.events)

-- which tables have an event-triggered entry
abbrev pub AreNested : Description → List Bool → Type 0
AreNested d nested = nested ≡ map (λ t. list_any (is_event_entry d) t.entries) d.tables

-- the size of what a name names, where that is a frame of any of the three kinds
abbrev pub size_named : Description → Name → Option (Option ℕ)
size_named d n =
    option_or (option_map (λ f. good_size f.size.value) (frame_named d n))
    (option_or (option_map (λ f. greatest_size d f.members) (sporadic_named d n))
    (option_map (λ e. first_size d e.members) (event_named d n)))
