-- What it means that no difference is listed, or none of a class.
use Rattle.std.specs.Prelude.{◌≡◌, ◌≢◌, ◌↔◌, ◌<◌, ◌^◌, ℕ, false, List, [], All, AllPairs, Contains, map, option_map, zip}
use Rattle.std.specs.Prelude.{Option, Some, None}
use Rattle.lin_frame.specs.declared.sums.SumKind.{SumKind}
use Rattle.lin_cluster.specs.LintNames.{has_dot}
use Rattle.lin_parts.specs.declared.description.Frame.{Frame}
use Rattle.lin_parts.specs.declared.description.PlacedSignal.{PlacedSignal}
use Rattle.lin_parts.specs.declared.description.Signal.{Signal}
use Rattle.lin_parts.specs.declared.description.Table.{Table}
use Rattle.lin_sections.specs.Differences.{all_differences, fact_with, kind_differences, thing_named}
use Rattle.lin_sections.specs.NewNames.{name_in, no_renames, RenamesData}
use Rattle.lin_sections.specs.Numbering.{entry_id}
use Rattle.lin_sections.specs.Renames.{all_renames}
use Rattle.lin_sections.specs.Things.{all_things, table_entries, initial_fact, size_text, table_things, ComparedData}
use Rattle.lin_schedule.specs.declared.table_load.TableLoad.{TableLoad}
use Rattle.lin_sections.specs.declared.diff.fact.Class.{Class}
use Rattle.lin_sections.specs.declared.diff.fact.Class.TheVariants as classes
use Rattle.lin_sections.specs.declared.diff.fact.EntryFact.{EntryFact}
use Rattle.lin_sections.specs.declared.diff.fact.Fact.{Fact}
use Rattle.lin_sections.specs.declared.diff.fact.Thing.{Thing}

-- ---- no line: both LDFs have the same things, facts and entries, in whatever order

abbrev pub value_of : List ℕ → List Fact → Option (List ℕ)
value_of key fs = option_map (λ f. f.value) (fact_with key fs)

-- what an entry is for, with its number among the entries for the same, and its delay
abbrev pub entry_step : EntryFact → List ℕ × List ℕ
entry_step e = (entry_id e, e.delay)

-- the same name, the same value of each key, and the same entries with the same delays in the same order
pub record SaysSame (o n : Thing) : Type 0 where
  pub name : o.name ≡ n.name
  pub facts : (key : List ℕ) → value_of key o.facts ≡ value_of key n.facts
  pub entries : map entry_step o.entries ≡ map entry_step n.entries

abbrev pub AreSame : Option Thing → Option Thing → Type 0
AreSame None None = Unit {0}
AreSame None (Some n) = ⊥
AreSame (Some o) None = ⊥
AreSame (Some o) (Some n) = SaysSame o n

abbrev pub SaySame : List Thing → List Thing → Type 0
SaySame olds news = (name : List ℕ) → AreSame (thing_named name olds) (thing_named name news)

abbrev pub AreDistinct : List (List ℕ) → Type 0
AreDistinct texts = AllPairs (λ a b. a ≢ b) texts

-- each name once, in a thing each key once, and in a table each word with its number once
pub record AreFound (ts : List Thing) : Type 0 where
  pub names : AreDistinct (map (λ t. t.new_name) ts)
  pub facts : All (λ t. AreDistinct (map (λ f. f.key) t.facts)) ts
  pub entries : All (λ t. AreDistinct (map entry_id t.entries)) ts

-- a difference is listed exactly if the LDFs differ in a thing, a fact or an entry
abbrev pub SilenceIsSameness : Type 0
SilenceIsSameness =
    (olds news : List Thing) → AreFound olds → AreFound news
    → (kind_differences olds news ≡ []) ↔ SaySame olds news

-- ---- no line of a class

abbrev pub IsSilentOn : Class → ComparedData → ComparedData → Type 0
IsSilentOn class old new =
    All (λ d. d.class ≢ class)
    (all_differences (all_things old (all_renames old new)) (all_things new no_renames))

-- identifiers of one byte, and numbers of 32 bits
pub record HasShortNumbers (d : ComparedData) : Type 0 where
  pub ids : All (λ f. f.id.value < 256) d.description.frames
  pub sizes : All (λ f. f.size.value < 2 ^ 32) d.description.frames
  pub offsets : All (λ f. All (λ p. p.offset.value < 2 ^ 32) f.placed) d.description.frames

-- the frames that have a checksum model
abbrev pub modelled_frames : ComparedData → List (Frame × SumKind)
modelled_frames d = zip d.description.frames (map (λ f. f.model) d.cluster.frames)

-- a signal of a frame is on the same bits of the other frame
abbrev pub KeepsPlace : RenamesData → Frame → PlacedSignal → Type 0
KeepsPlace r g p =
    (q : PlacedSignal) × Contains g.placed q
    × (q.signal.text ≡ name_in r.signals p.signal.text) × (q.offset.value ≡ p.offset.value)

-- the same frame: its identifier, its size, its publisher, its checksum model, and the places of its signals
pub record KeepsFrame (r : RenamesData) (f g : Frame × SumKind) : Type 0 where
  pub name : g.0.name.text ≡ name_in r.frames f.0.name.text
  pub id : g.0.id.value ≡ f.0.id.value
  pub size : g.0.size.value ≡ f.0.size.value
  pub publisher : g.0.publisher.text ≡ name_in r.nodes f.0.publisher.text
  pub model : g.1 ≡ f.1
  pub places : All (KeepsPlace r g.0) f.0.placed

-- the same signal: its size and its initial value
pub record KeepsSignal (r : RenamesData) (s t : Signal) : Type 0 where
  pub name : t.name.text ≡ name_in r.signals s.name.text
  pub size : size_text t ≡ size_text s
  pub initial : (initial_fact t.init).value ≡ (initial_fact s.init).value

-- without a line `bytes` each frame and each signal of the old LDF is in the new one
abbrev pub SilenceKeepsBytes : Type 0
SilenceKeepsBytes =
    (old new : ComparedData) → HasShortNumbers old → HasShortNumbers new → IsSilentOn classes.Bytes old new
    → All (λ f. (g : Frame × SumKind) × Contains (modelled_frames new) g × KeepsFrame (all_renames old new) f g) (modelled_frames old)
    × All (λ s. (t : Signal) × Contains new.description.signals t × KeepsSignal (all_renames old new) s t) old.description.signals

-- each entry of a table has another word, or another number
abbrev pub HaveDistinctEntries : List Thing → Type 0
HaveDistinctEntries ts = All (λ t. AreDistinct (map entry_id t.entries)) ts

-- the tables that have a load
abbrev pub loaded_tables : ComparedData → List (Table × TableLoad)
loaded_tables d = zip d.description.tables d.loads

-- a table with the same entries and delays
pub record KeepsTable (old new : ComparedData) (t u : Table) : Type 0 where
  pub name : u.name.text ≡ name_in (all_renames old new).tables t.name.text
  pub entries : map entry_step (table_entries old (all_renames old new) t) ≡ map entry_step (table_entries new no_renames u)

-- without a line `timing` each table of the old LDF is in the new one (a table with a dot in its name isn't one of
-- the LDF)
abbrev pub SilenceKeepsTimes : Type 0
SilenceKeepsTimes =
    (old new : ComparedData) → HaveDistinctEntries (table_things old (all_renames old new)) → HaveDistinctEntries (table_things new no_renames)
    → IsSilentOn classes.Timing old new
    → All
    (λ t. has_dot t.0.name.text ≡ false → (u : Table × TableLoad) × Contains (loaded_tables new) u × KeepsTable old new t.0 u.0)
    (loaded_tables old)
