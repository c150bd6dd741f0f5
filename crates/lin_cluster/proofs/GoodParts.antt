-- What a description in which nothing is found but slots too short has, declaration by declaration.
use Rattle.std.proofs.Common.{◌≡◌, ◌<◌, ◌≤◌, ◌==◌, nat_lt, ℕ, zero, suc, Bool, true, false, not, ◌&&◌, List, [], ◌∷◌, length, get_or, take, map, refl, arith}
use Rattle.std.specs.Prelude.{Option, Some, None, All, is_some, flat_map, slice_get}
use Rattle.std.specs.List.{list_any, enumerate_from}
use Rattle.std.proofs.lemmas.Bool.{not-false, ltb-false}
use Rattle.lin_parts.specs.declared.description.Description.{Description}
use Rattle.lin_parts.specs.declared.description.EventFrame.{EventFrame}
use Rattle.lin_parts.specs.declared.description.Frame.{Frame}
use Rattle.lin_parts.specs.declared.description.Name.{Name}
use Rattle.lin_parts.specs.declared.description.PlacedSignal.{PlacedSignal}
use Rattle.lin_parts.specs.declared.description.Signal.{Signal}
use Rattle.lin_parts.specs.declared.description.Sporadic.{Sporadic}
use Rattle.lin_parts.specs.declared.description.Table.{Table}
use Rattle.lin_parts.specs.declared.description.TableEntry.{TableEntry}
use Rattle.std.specs.Str.{bytes_eq}
use Rattle.std.specs.Option.{option_map_or}
use Rattle.lin_cluster.specs.Described.{signal_number, frame_number, table_number}
use Rattle.lin_cluster.specs.Findings.{in_signal, in_placed, in_frame, in_sporadic_member, in_sporadic, in_event_member, in_event, in_entry, in_table}
use Rattle.lin_cluster.specs.Identifiers.{ids, bad_id}
use Rattle.lin_cluster.specs.Overlaps.{overlap_at, is_overlapping}
use Rattle.lin_cluster.specs.Places.{wrong_publisher_at, is_published_elsewhere, outside_at, is_outside}
use Rattle.lin_cluster.specs.Sizes.{bad_signal_size, bad_frame_size, is_good_size, is_frame_size, bad_init, init_place, is_good_init}
use Rattle.lin_cluster.specs.UnknownNames.{unknown_node, unknown_signal, unknown_member, unknown_table, unknown_entry}
use Rattle.lin_cluster.specs.FindingsNames.{is_node, signal_named, frame_named, table_named, is_any_frame, is_event_entry, carries_frame, when, at_name, at_number, at_place}
use Rattle.lin_cluster.specs.Limits.{responder_limits, frame_limits, time_limits, past, long_delay, long_table, too_long}
use Rattle.lin_cluster.specs.Members.{bad_member_at, bad_sporadic_at, is_responders, is_bad_member, is_mixed, mixed_at}
use Rattle.lin_cluster.specs.Slots.{short_slot_at, zero_delay, is_speed}
use Rattle.lin_cluster.specs.Tables.{empty_table, nested_at}
use Rattle.lin_cluster.specs.declared.finding.FindingKind.TheVariants.{UnknownName, WrongPublisher, BadId, BadSize, SignalOutside, SignalsOverlap, BadInit, ZeroDelay, BadEventFrame, BadSporadic, NestedCollision, EmptyTable, LimitPassed, MixedChecksum}
use Rattle.lin_cluster.proofs.KnownNames.{no_frame, no_table, the_signal, signal-within, signal-at, frame-found, table-within, table-found}
use Rattle.lin_cluster.proofs.NamesFound.{found-within}
use Rattle.lin_parts.proofs.Pairs.{all-front, all-back, all-of-map}
use Rattle.lin_cluster.proofs.NothingElse.{NothingElse}
use Rattle.lin_cluster.proofs.NothingIn.{IsShort, AreShort, two-parts, three-parts, four-parts, in-each, when-not, within-limit, of-each, none-has}

-- ---- how much there is

pub record WithinLimits (d : Description) : Type 0 where
  pub slaves : length d.slaves ≤ 15
  pub signals : length d.signals ≤ 1024
  pub frames : length d.frames ≤ 60
  pub sporadic : length d.sporadic ≤ 256
  pub events : length d.events ≤ 60
  pub tables : length d.tables ≤ 256
  pub speed : is_speed d.speed.value ≡ true
  pub base : d.time_base.value ≤ 1000000000
  pub jitter : d.jitter.value ≤ 1000000000

some-length : {X : Type 0} (xs : List X) → (length xs == 0) ≡ false → 1 ≤ length xs
some-length [] e = absurd (cc)
some-length (x ∷ xs) e = omega arith

limit-parts : (d : Description) → NothingElse d → AreShort (responder_limits d) × AreShort (frame_limits d) × AreShort (past (λ (t : Table). t.name) (slice_get d.tables 256)) × AreShort (time_limits d)
limit-parts d none = four-parts IsShort (responder_limits d) (frame_limits d) (past (λ t. t.name) (slice_get d.tables 256)) (time_limits d) none.limits

pub within-limits : (d : Description) → NothingElse d → WithinLimits d
within-limits d none =
    let parts = limit-parts d none
    in let times = three-parts IsShort (when (not (is_speed d.speed.value)) (at_number LimitPassed d.speed)) (too_long d.time_base) (too_long d.jitter) parts.3
    in let kinds = four-parts IsShort (past (λ (s : Signal). s.name) (slice_get d.signals 1024)) (past (λ (f : Frame). f.name) (slice_get d.frames 60)) (past (λ (f : Sporadic). f.name) (slice_get d.sporadic 256)) (past (λ (e : EventFrame). e.name) (slice_get d.events 60)) parts.1
    in record {
      slaves = within-limit (λ n. n) d.slaves 15 parts.0;
      signals = within-limit (λ s. s.name) d.signals 1024 kinds.0;
      frames = within-limit (λ f. f.name) d.frames 60 kinds.1;
      sporadic = within-limit (λ f. f.name) d.sporadic 256 kinds.2;
      events = within-limit (λ e. e.name) d.events 60 kinds.3;
      tables = within-limit (λ t. t.name) d.tables 256 parts.2;
      speed = not-false (is_speed d.speed.value) (when-not _ (at_number LimitPassed d.speed) refl times.0);
      base = ltb-false 1000000000 d.time_base.value (when-not _ (at_number LimitPassed d.time_base) refl times.1);
      jitter = ltb-false 1000000000 d.jitter.value (when-not _ (at_number LimitPassed d.jitter) refl times.2);
    }

-- ---- signals

pub record GoodSignal (d : Description) (s : Signal) : Type 0 where
  pub publisher : is_node d s.publisher ≡ true
  pub subscribers : All (λ n. is_node d n ≡ true) s.subscribers
  pub size : is_good_size s ≡ true
  pub init : is_good_init s.size.value s.init ≡ true

-- a name that is no node's has a finding
known-node : (d : Description) (n : Name) → AreShort (unknown_node d n) → is_node d n ≡ true
known-node d n none = not-false (is_node d n) (when-not _ (at_name UnknownName n) refl none)

good-init : (good fits : Bool) → good ≡ true → (good && not fits) ≡ false → fits ≡ true
good-init true true g e = refl
good-init true false g e = absurd (cc)
good-init false fits g e = absurd (cc)

pub good-signals : (d : Description) → NothingElse d → All (GoodSignal d) d.signals
good-signals d none k s lt =
    let here = get_or d.signals k s
    in let parts = four-parts IsShort (unknown_node d here.publisher) (flat_map (unknown_node d) here.subscribers) (bad_signal_size here) (bad_init here) (in-each IsShort (in_signal d) d.signals none.signals k s lt)
    in let size : is_good_size here ≡ true = not-false (is_good_size here) (when-not _ (at_number BadSize here.size) refl parts.2)
    in record {
      publisher = known-node d here.publisher parts.0;
      subscribers = λ i n in'. known-node d (get_or here.subscribers i n) (in-each IsShort (unknown_node d) here.subscribers parts.1 i n in');
      size = size;
      init = good-init (is_good_size here) (is_good_init here.size.value here.init) size (when-not _ (at_place BadInit (init_place here.init)) refl parts.3);
    }

-- ---- frames

pub record GoodPlaced (d : Description) (f : Frame) (p : PlacedSignal) : Type 0 where
  pub within : signal_number d p.signal < length d.signals
  pub publisher : is_published_elsewhere d f (the_signal d p) ≡ false
  pub inside : is_outside f p (the_signal d p) ≡ false

pub record GoodFrame (d : Description) (f : Frame) : Type 0 where
  pub publisher : is_node d f.publisher ≡ true
  pub id : f.id.value < 60
  pub size : is_frame_size f.size.value ≡ true
  pub placed : All (GoodPlaced d f) f.placed
  pub apart : (k : ℕ) (p : PlacedSignal) → k < length f.placed → is_overlapping d (take k f.placed) (get_or f.placed k p) ≡ false

-- what is asked of something known
asked : {A : Type 0} (o : Option A) (x : A) (test : A → Bool) → o ≡ Some x → option_map_or test o false ≡ false → test x ≡ false
asked o x test is e = rw is at e

placed-parts : (d : Description) (f : Frame) → AreShort (flat_map (in_placed d f f.placed) (enumerate_from 0 f.placed)) → (k : ℕ) (p : PlacedSignal) → k < length f.placed
    → AreShort (unknown_signal d (get_or f.placed k p)) × AreShort (wrong_publisher_at d f (get_or f.placed k p)) × AreShort (outside_at d f (get_or f.placed k p)) × AreShort (overlap_at d f.placed (k, get_or f.placed k p))
placed-parts d f none k p lt =
    let here = get_or f.placed k p
    in four-parts IsShort (unknown_signal d here) (wrong_publisher_at d f here) (outside_at d f here) (overlap_at d f.placed (k, here))
    (of-each (λ ip. AreShort (in_placed d f f.placed ip)) f.placed (in-each IsShort (in_placed d f f.placed) (enumerate_from 0 f.placed) none) k p lt)

good-placed : (d : Description) (f : Frame) → AreShort (flat_map (in_placed d f f.placed) (enumerate_from 0 f.placed)) → All (GoodPlaced d f) f.placed
good-placed d f none k p lt =
    let here = get_or f.placed k p
    in let parts = placed-parts d f none k p lt
    in let within : signal_number d here.signal < length d.signals = signal-within d here.signal (when-not _ (at_name UnknownName here.signal) refl parts.0)
    in let is : signal_named d here.signal ≡ Some (the_signal d here) = signal-at d here within
    in record {
      within = within;
      publisher = asked (signal_named d here.signal) (the_signal d here) (is_published_elsewhere d f) is (when-not _ (at_name WrongPublisher here.signal) refl parts.1);
      inside = asked (signal_named d here.signal) (the_signal d here) (is_outside f here) is (when-not _ (at_number SignalOutside here.offset) refl parts.2);
    }

good-apart : (d : Description) (f : Frame) → AreShort (flat_map (in_placed d f f.placed) (enumerate_from 0 f.placed)) → (k : ℕ) (p : PlacedSignal) → k < length f.placed → is_overlapping d (take k f.placed) (get_or f.placed k p) ≡ false
good-apart d f none k p lt = when-not _ (at_number SignalsOverlap (get_or f.placed k p).offset) refl (placed-parts d f none k p lt).3

pub small-id : (n : ℕ) → nat_lt 59 n ≡ false → n < 60
small-id n e = let h = ltb-false 59 n e in omega (arith, h)

front-ids : (d : Description) → AreShort (flat_map bad_id (ids d)) → All (λ (f : Frame). f.id.value < 60) d.frames
front-ids d none k f lt =
    small-id (get_or d.frames k f).id.value
    (when-not _ (at_number BadId (get_or d.frames k f).id) refl
    (all-of-map (λ n. AreShort (bad_id n)) (λ (f : Frame). f.id) d.frames (all-front (λ n. AreShort (bad_id n)) (map (λ (f : Frame). f.id) d.frames) (map (λ (e : EventFrame). e.id) d.events) (in-each IsShort bad_id (ids d) none)) k f lt))

back-ids : (d : Description) → AreShort (flat_map bad_id (ids d)) → All (λ (e : EventFrame). e.id.value < 60) d.events
back-ids d none k e lt =
    small-id (get_or d.events k e).id.value
    (when-not _ (at_number BadId (get_or d.events k e).id) refl
    (all-of-map (λ n. AreShort (bad_id n)) (λ (e : EventFrame). e.id) d.events (all-back (λ n. AreShort (bad_id n)) (map (λ (f : Frame). f.id) d.frames) (map (λ (e : EventFrame). e.id) d.events) (in-each IsShort bad_id (ids d) none)) k e lt))

pub good-frames : (d : Description) → NothingElse d → All (GoodFrame d) d.frames
good-frames d none k f lt =
    let here = get_or d.frames k f
    in let parts = three-parts IsShort (unknown_node d here.publisher) (bad_frame_size here) (flat_map (in_placed d here here.placed) (enumerate_from 0 here.placed)) (in-each IsShort (in_frame d) d.frames none.frames k f lt)
    in record {
      publisher = known-node d here.publisher parts.0;
      id = front-ids d none.ids k f lt;
      size = not-false (is_frame_size here.size.value) (when-not _ (at_number BadSize here.size) refl parts.1);
      placed = good-placed d here parts.2;
      apart = good-apart d here parts.2;
    }

-- ---- sporadic and event-triggered frames

-- the frame that a member means
abbrev pub the_frame : Description → Name → Frame
the_frame d m = get_or d.frames (frame_number d m) no_frame

-- a member is a frame, where it names something and another kind would be found
member-some : {A : Type 0} (o : Option A) (test : A → Bool) (known : Bool) → known ≡ true → (known && option_map_or test o true) ≡ false → is_some o ≡ true
member-some None test true k e = absurd (cc)
member-some None test false k e = absurd (cc)
member-some (Some x) test known k e = refl

member-asked : {A : Type 0} (o : Option A) (x : A) (test : A → Bool) (known : Bool) → o ≡ Some x → known ≡ true → (known && option_map_or test o true) ≡ false → test x ≡ false
member-asked o x test known is k e = let h : (true && option_map_or test (Some x) true) ≡ false = rw (is, k) at e in h

pub record GoodMember (d : Description) (test : Frame → Bool) (m : Name) : Type 0 where
  pub within : frame_number d m < length d.frames
  pub passes : test (the_frame d m) ≡ false

good-member : (d : Description) (test : Frame → Bool) (m : Name) → is_any_frame d m ≡ true → (is_any_frame d m && option_map_or test (frame_named d m) true) ≡ false → GoodMember d test m
good-member d test m known e =
    let within : frame_number d m < length d.frames = found-within (λ f. bytes_eq f.name.text m.text) d.frames (member-some (frame_named d m) test (is_any_frame d m) known e)
    in record { within = within; passes = member-asked (frame_named d m) (the_frame d m) test (is_any_frame d m) (frame-found d m within) known e }

pub record GoodSporadic (d : Description) (s : Sporadic) : Type 0 where
  pub members : All (GoodMember d (is_responders d)) s.members

pub good-sporadics : (d : Description) → NothingElse d → All (GoodSporadic d) d.sporadic
good-sporadics d none k s lt =
    let here = get_or d.sporadic k s
    in let each = in-each IsShort (in_sporadic_member d) here.members (in-each IsShort (in_sporadic d) d.sporadic none.sporadic k s lt)
    in record {
      members = λ i m in'.
          let member = get_or here.members i m
          in let parts = two-parts IsShort (unknown_member d member) (bad_sporadic_at d member) (each i m in')
          in good-member d (is_responders d) member (not-false (is_any_frame d member) (when-not _ (at_name UnknownName member) refl parts.0)) (when-not _ (at_name BadSporadic member) refl parts.1);
    }

pub record GoodEvent (d : Description) (e : EventFrame) : Type 0 where
  pub id : e.id.value < 60
  pub table : table_number d e.table < length d.tables
  pub members : (i : ℕ) (m : Name) → i < length e.members → GoodMember d (is_bad_member d e.members (take i e.members)) (get_or e.members i m)
  pub models : All (λ m. is_mixed d e.members m ≡ false) e.members
  pub resolving : All (λ x. is_event_entry d x ≡ false) (get_or d.tables (table_number d e.table) no_table).entries

good-resolving : (d : Description) (e : EventFrame) → table_number d e.table < length d.tables → AreShort (nested_at d e) → All (λ x. is_event_entry d x ≡ false) (get_or d.tables (table_number d e.table) no_table).entries
good-resolving d e within none =
    let table = get_or d.tables (table_number d e.table) no_table
    in none-has (is_event_entry d) table.entries
    (asked (table_named d e.table) table (λ (t : Table). list_any (is_event_entry d) t.entries) (table-found d e.table within) (when-not _ (at_name NestedCollision e.table) refl none))

pub good-events : (d : Description) → NothingElse d → All (GoodEvent d) d.events
good-events d none k e lt =
    let here = get_or d.events k e
    in let whole = three-parts IsShort (unknown_table d here) (nested_at d here) (flat_map (in_event_member d here.members) (enumerate_from 0 here.members)) (in-each IsShort (in_event d) d.events none.events k e lt)
    in let table : table_number d here.table < length d.tables = table-within d here.table (when-not _ (at_name UnknownName here.table) refl whole.0)
    in let each : (i : ℕ) (m : Name) → i < length here.members → AreShort (in_event_member d here.members (i, get_or here.members i m)) = of-each (λ im. AreShort (in_event_member d here.members im)) here.members (in-each IsShort (in_event_member d here.members) (enumerate_from 0 here.members) whole.2)
    in let parts = λ (i : ℕ) (m : Name) (in' : i < length here.members). let member = get_or here.members i m in three-parts IsShort (unknown_member d member) (bad_member_at d here.members (i, member)) (mixed_at d here.members member) (each i m in')
    in record {
      id = back-ids d none.ids k e lt;
      table = table;
      members = λ i m in'.
          let member = get_or here.members i m
          in good-member d (is_bad_member d here.members (take i here.members)) member (not-false (is_any_frame d member) (when-not _ (at_name UnknownName member) refl (parts i m in').0)) (when-not _ (at_name BadEventFrame member) refl (parts i m in').1);
      models = λ i m in'. when-not _ (at_name MixedChecksum (get_or here.members i m)) refl (parts i m in').2;
      resolving = good-resolving d here table whole.1;
    }

-- ---- tables

pub record GoodLine (d : Description) (x : TableEntry) : Type 0 where
  pub known : (carries_frame x && not (is_any_frame d x.name)) ≡ false
  pub some : 1 ≤ x.delay.value
  pub few : x.delay.value ≤ 1000000000

pub record GoodTable (d : Description) (t : Table) : Type 0 where
  pub some : 1 ≤ length t.entries
  pub few : length t.entries ≤ 1024
  pub lines : All (GoodLine d) t.entries

pub some-tables : (d : Description) → NothingElse d → 1 ≤ length d.tables
some-tables d none = some-length d.tables (when-not _ _ refl none.some_table)

some-delay : (n : ℕ) → (n == 0) ≡ false → 1 ≤ n
some-delay zero e = absurd (cc)
some-delay (suc n) e = omega arith

pub good-tables : (d : Description) → NothingElse d → All (GoodTable d) d.tables
good-tables d none k t lt =
    let here = get_or d.tables k t
    in let parts = three-parts IsShort (empty_table here) (long_table here) (flat_map (in_entry d) here.entries) (in-each IsShort (in_table d) d.tables none.tables k t lt)
    in record {
      some = some-length here.entries (when-not _ (at_name EmptyTable here.name) refl parts.0);
      few = within-limit (λ x. x.name) here.entries 1024 parts.1;
      lines = λ i x in'.
          let entry = get_or here.entries i x
          in let each = four-parts IsShort (unknown_entry d entry) (short_slot_at d entry) (zero_delay entry) (long_delay entry) (in-each IsShort (in_entry d) here.entries parts.2 i x in')
          in record {
            known = when-not _ (at_name UnknownName entry.name) refl each.0;
            some = some-delay entry.delay.value (when-not _ (at_number ZeroDelay entry.delay) refl each.2);
            few = ltb-false 1000000000 entry.delay.value (when-not _ (at_number LimitPassed entry.delay) refl each.3);
          };
    }
