-- What stays where no difference of a class is listed.
use Rattle.std.proofs.Common.{◌≡◌, ◌≢◌, ◌∙◌, ◌<◌, ℕ, zero, suc, Bool, true, false, cond, List, [], ◌∷◌, ◌++◌, get_or, map, flat_map, refl, sym, ap, subst, arith, ◌⊎◌, inl, inr}
use Rattle.std.specs.Prelude.{◌/◌, ◌%◌, ◌^◌, All, Contains, codes, fold, zip, Some, None, is_some}
use Rattle.std.specs.Fmt.{decimal}
use Rattle.std.specs.List.{list_any}
use Rattle.std.specs.Option.{option_map_or, option_or}
use Rattle.std.proofs.lemmas.List.Folds.{find-append}
use Rattle.std.specs.Str.{bytes_eq}
use Rattle.std.proofs.lemmas.Bool.Decides.{nat_tests}
use Rattle.std.proofs.lemmas.Fmt.{decimal_injective}
use Rattle.lin_sections.specs.declared.diff.fact.Class.{Class}
use Rattle.lin_sections.specs.declared.diff.fact.Class.TheVariants as classes
use Rattle.lin_sections.specs.declared.diff.fact.EntryFact.{EntryFact}
use Rattle.lin_sections.specs.declared.diff.fact.Fact.{Fact}
use Rattle.lin_sections.specs.declared.diff.fact.Thing.{Thing}
use Rattle.lin_sections.specs.Differences.{DifferenceData, all_differences, delay_difference, entry_difference, entry_with_id, is_moved_in, pair_differences, fact_difference, fact_with, kind_differences, new_entry, new_fact, old_entry, old_fact, old_thing, thing_difference, thing_differences, thing_named}
use Rattle.lin_sections.specs.DiffLaws.{modelled_frames, entry_step, loaded_tables, AreDistinct, HasShortNumbers, HaveDistinctEntries, KeepsFrame, KeepsPlace, KeepsSignal, KeepsTable, SilenceKeepsBytes, SilenceKeepsTimes}
use Rattle.lin_parts.specs.declared.description.Description.{Description}
use Rattle.lin_parts.specs.declared.description.Frame.{Frame}
use Rattle.lin_sections.specs.FactTexts.{two_hex_digits, capital_hex_digit, with_spaces}
use Rattle.lin_sections.specs.Facts.{class_if_gone, fact, place_of_name, place_of_number}
use Rattle.lin_parts.specs.declared.description.Init.{Init}
use Rattle.lin_parts.specs.declared.description.Init.TheVariants.{Scalar, Array}
use Rattle.lin_parts.specs.declared.description.Name.{Name}
use Rattle.lin_sections.specs.Numbering.{entry_id}
use Rattle.lin_cluster.specs.LintNames.{has_dot}
use Rattle.lin_parts.specs.declared.description.Table.{Table}
use Rattle.lin_schedule.specs.declared.table_load.TableLoad.{TableLoad}
use Rattle.lin_sections.specs.NewNames.{name_in, no_renames, RenamesData}
use Rattle.lin_parts.specs.declared.description.Number.{Number}
use Rattle.lin_parts.specs.declared.description.PlacedSignal.{PlacedSignal}
use Rattle.lin_sections.specs.Renames.{all_renames}
use Rattle.lin_parts.specs.declared.description.Signal.{Signal}
use Rattle.lin_frame.specs.declared.sums.SumKind.{SumKind}
use Rattle.lin_frame.specs.declared.sums.SumKind.TheVariants.{Classic, Enhanced}
use Rattle.lin_sections.specs.Things.{all_things, encoding_facts, encoding_of, table_entries, facts_of_frame, frame_thing, frame_things, id_fact, initial_fact, is_subscriber, lines_in, model_text, number_fact, own_facts, placed_fact, facts_of_signal, signal_thing, size_text, table_thing, table_thing_of, table_things, value_facts, with_subscriber, ComparedData}
use Rattle.lin_sections.proofs.FoundTexts.{apart, contained-at, contained-later, find_by, found-is, holds-of}
use Rattle.lin_sections.proofs.Silence.{entries-same, old-value}

-- ---- what is contained

pub contained-left : {X : Type 0} (xs ys : List X) (x : X) → Contains xs x → Contains (xs ++ ys) x
contained-left [] ys x (k, lt, e) = absurd (omega arith)
contained-left (y ∷ xs) ys x (zero, lt, e) = (0, omega arith, e)
contained-left (y ∷ xs) ys x (suc k, lt, e) = contained-later y (xs ++ ys) x (contained-left xs ys x (k, omega arith, e))

pub contained-right : {X : Type 0} (xs ys : List X) (x : X) → Contains ys x → Contains (xs ++ ys) x
contained-right [] ys x c = c
contained-right (y ∷ xs) ys x c = contained-later y (xs ++ ys) x (contained-right xs ys x c)

pub contained-flat : {X Y : Type 0} (f : X → List Y) (xs : List X) (x : X) (y : Y) → Contains xs x → Contains (f x) y → Contains (flat_map f xs) y
contained-flat f [] x y (k, lt, e) c = absurd (omega arith)
contained-flat f (z ∷ xs) x y (zero, lt, e) c = contained-left (f z) (flat_map f xs) y (subst (λ w. Contains (f w) y) (sym e) c)
contained-flat f (z ∷ xs) x y (suc k, lt, e) c = contained-right (f z) (flat_map f xs) y (contained-flat f xs x y (k, omega arith, e) c)

pub contained-mapped : {X Y : Type 0} (f : X → Y) (xs : List X) (x : X) → Contains xs x → Contains (map f xs) (f x)
contained-mapped f [] x (k, lt, e) = absurd (omega arith)
contained-mapped f (z ∷ xs) x (zero, lt, e) = (0, omega arith, ap f e)
contained-mapped f (z ∷ xs) x (suc k, lt, e) = contained-later (f z) (map f xs) (f x) (contained-mapped f xs x (k, omega arith, e))

pub mapped-from : {X Y : Type 0} (f : X → Y) (xs : List X) (y : Y) → Contains (map f xs) y → (x : X) × Contains xs x × (f x ≡ y)
mapped-from f [] y (k, lt, e) = absurd (omega arith)
mapped-from f (x ∷ xs) y (zero, lt, e) = (x, (0, omega arith, refl), e)
mapped-from {X} f (x ∷ xs) y (suc k, lt, e) =
    let rest : (z : X) × Contains xs z × (f z ≡ y) = mapped-from f xs y (k, omega arith, e) in
    (rest.0, contained-later x xs rest.0 rest.1, rest.2)

-- ---- a thing without a difference of a class

abbrev pub Silent : Class → List DifferenceData → Type 0
Silent class ds = (d : DifferenceData) → Contains ds d → d.class ≢ class

pub silent-here : (class : Class) (ds : List DifferenceData) → All (λ d. d.class ≢ class) ds → Silent class ds
silent-here class ds all d (k, lt, e) = subst (λ (x : DifferenceData). x.class ≢ class) e (all k d lt)

-- of one of the kinds
pub silent-kind : (class : Class) (olds news : List (List Thing)) (os ns : List Thing) → Silent class (all_differences olds news)
    → Contains (zip olds news) (os, ns) → Silent class (kind_differences os ns)
silent-kind class olds news os ns silent c d in_kind =
    silent d (contained-flat (λ (kinds : List Thing × List Thing). kind_differences kinds.0 kinds.1) (zip olds news) (os, ns) d c in_kind)

-- the thing that the new LDF has for one of the old LDF
pub kept-thing : (class : Class) (os ns : List Thing) (o : Thing) → Silent class (kind_differences os ns) → Contains os o → class_if_gone o.kind ≡ class
    → (n : Thing) × Contains ns n × (n.new_name ≡ o.new_name) × Silent class (thing_differences o n)
kept-thing class os ns o silent c gone =
    let here : Silent class (old_thing ns o) = λ d in_thing. silent d (contained-left (flat_map (old_thing ns) os) _ d (contained-flat (old_thing ns) os o d c in_thing)) in
    elim (thing_named o.new_name ns) as (λ p. (thing_named o.new_name ns ≡ p) → Silent class (option_map_or (thing_differences o) p (thing_difference (class_if_gone o.kind) o.kind (Some o) None ∷ [])) → (n : Thing) × Contains ns n × (n.new_name ≡ o.new_name) × Silent class (thing_differences o n)) [
      | Some n ↦ λ e s. let is : Contains ns n × (n.new_name ≡ o.new_name) = found-is (λ (t : Thing). t.new_name) o.new_name ns n e in (n, is.0, is.1, s)
      | None ↦ λ e s. absurd (s (thing_difference (class_if_gone o.kind) o.kind (Some o) None) (0, omega arith, refl) gone)
    ] refl here

no-fact : (class : Class) (b : Bool) (d : DifferenceData) → d.class ≡ class → Silent class (cond b [] (d ∷ [])) → cond b [] (d ∷ []) ≡ []
no-fact class true d is s = refl
no-fact class false d is s = absurd (s d (0, omega arith, refl) is)

-- a fact of that class
pub kept-fact : (class : Class) (o n : Thing) (f : Fact) → Silent class (thing_differences o n) → Contains o.facts f → f.class ≡ class
    → (g : Fact) × (fact_with f.key n.facts ≡ Some g) × (f.value ≡ g.value)
kept-fact class o n f silent c of_class =
    let here : Silent class (old_fact o n f) = λ d in_fact. silent d (contained-right (cond (bytes_eq o.name n.name) [] (thing_difference classes.Names o.kind (Some o) (Some n) ∷ [])) _ d
    (contained-left (flat_map (old_fact o n) o.facts) _ d (contained-flat (old_fact o n) o.facts f d c in_fact))) in
    old-value o n f (no-fact class (option_map_or (λ g. bytes_eq g.value f.value) (fact_with f.key n.facts) false) (fact_difference f.class o n f (Some f) (fact_with f.key n.facts)) of_class here)

-- ---- texts

some-same : {X : Type 0} (x y : X) → Some x ≡ Some y → x ≡ y
some-same x y e = cc

digit-same : (a b : ℕ) → a < 16 → b < 16 → capital_hex_digit a ≡ capital_hex_digit b → a ≡ b
digit-same a b p q e = grind (arith, nat_tests)

byte-same : (a b : ℕ) → a < 256 → b < 256 → two_hex_digits (a % 256) ≡ two_hex_digits (b % 256) → a ≡ b
byte-same a b p q e =
    let high : capital_hex_digit (a % 256 / 16) ≡ capital_hex_digit (b % 256 / 16) = cc in
    let low : capital_hex_digit (a % 256 % 16) ≡ capital_hex_digit (b % 256 % 16) = cc in
    let first : a % 256 / 16 ≡ b % 256 / 16 = digit-same (a % 256 / 16) (b % 256 / 16) (omega arith) (omega arith) high in
    let second : a % 256 % 16 ≡ b % 256 % 16 = digit-same (a % 256 % 16) (b % 256 % 16) (omega arith) (omega arith) low in
    omega arith

pub id-same : (a b : Number) → a.value < 256 → b.value < 256 → (id_fact a).value ≡ (id_fact b).value → a.value ≡ b.value
id-same a b p q e = byte-same a.value b.value p q (let bytes : two_hex_digits (a.value % 256) ≡ two_hex_digits (b.value % 256) = cc in bytes)

model-same : (a b : SumKind) → model_text a ≡ model_text b → a ≡ b
model-same Classic Classic e = refl
model-same Classic Enhanced e = absurd cc
model-same Enhanced Classic e = absurd cc
model-same Enhanced Enhanced e = refl

place-key : (a b : List ℕ) → with_spaces (codes "place" ∷ a ∷ []) ≡ with_spaces (codes "place" ∷ b ∷ []) → a ≡ b
place-key a b e = cc

-- ---- frames

-- the place of a signal isn't one of the frame's own facts
placed-found : (d : Description) (r : RenamesData) (g : Frame) (m : SumKind) (name : List ℕ)
    → fact_with (with_spaces (codes "place" ∷ name ∷ [])) (facts_of_frame d r g m) ≡ find_by (λ (f : Fact). f.key) (with_spaces (codes "place" ∷ name ∷ [])) (map (placed_fact d r) g.placed)
placed-found d r g m name = refl

place-kept : (old new : ComparedData) (f g : Frame × SumKind) (p : PlacedSignal) → Contains f.0.placed p
    → p.offset.value < 2 ^ 32 → All (λ p. p.offset.value < 2 ^ 32) g.0.placed
    → ((x : Fact) → Contains (facts_of_frame old.description (all_renames old new) f.0 f.1) x → x.class ≡ classes.Bytes
    → (y : Fact) × (fact_with x.key (facts_of_frame new.description no_renames g.0 g.1) ≡ Some y) × (x.value ≡ y.value))
    → KeepsPlace (all_renames old new) g.0 p
place-kept old new f g p c short g_offsets kept =
    let r : RenamesData = all_renames old new in
    let name : List ℕ = name_in r.signals p.signal.text in
    let found : (y : Fact) × (fact_with (with_spaces (codes "place" ∷ name ∷ [])) (facts_of_frame new.description no_renames g.0 g.1) ≡ Some y) × (decimal p.offset.value ≡ y.value) =
    kept (placed_fact old.description r p) (contained-right (own_facts f.0 (name_in r.nodes f.0.publisher.text) f.1) (map (placed_fact old.description r) f.0.placed) (placed_fact old.description r p)
    (contained-mapped (placed_fact old.description r) f.0.placed p c)) refl in
    let there : Contains (map (placed_fact new.description no_renames) g.0.placed) found.0 × (found.0.key ≡ with_spaces (codes "place" ∷ name ∷ [])) =
    found-is (λ (x : Fact). x.key) (with_spaces (codes "place" ∷ name ∷ [])) (map (placed_fact new.description no_renames) g.0.placed) found.0
    (sym (placed-found new.description no_renames g.0 g.1 name) ∙ found.1) in
    let other : (q : PlacedSignal) × Contains g.0.placed q × (placed_fact new.description no_renames q ≡ found.0) = mapped-from (placed_fact new.description no_renames) g.0.placed found.0 there.0 in
    let q : PlacedSignal = other.0 in
    let q_short : q.offset.value < 2 ^ 32 = holds-of (λ (p : PlacedSignal). p.offset.value < 2 ^ 32) g.0.placed q g_offsets other.1 in (
      q,
      other.1,
      place-key q.signal.text name (ap (λ (x : Fact). x.key) other.2 ∙ there.1),
      sym (decimal_injective p.offset.value q.offset.value (omega arith) (omega arith) (found.2 ∙ sym (ap (λ (x : Fact). x.value) other.2))),
    )

frame-kept : (old new : ComparedData) (f g : Frame × SumKind)
    → f.0.id.value < 256 → g.0.id.value < 256 → f.0.size.value < 2 ^ 32 → g.0.size.value < 2 ^ 32
    → All (λ p. p.offset.value < 2 ^ 32) f.0.placed → All (λ p. p.offset.value < 2 ^ 32) g.0.placed
    → g.0.name.text ≡ name_in (all_renames old new).frames f.0.name.text
    → ((x : Fact) → Contains (facts_of_frame old.description (all_renames old new) f.0 f.1) x → x.class ≡ classes.Bytes
    → (y : Fact) × (fact_with x.key (facts_of_frame new.description no_renames g.0 g.1) ≡ Some y) × (x.value ≡ y.value))
    → KeepsFrame (all_renames old new) f g
frame-kept old new f g f_id g_id f_size g_size f_offsets g_offsets name kept =
    let r : RenamesData = all_renames old new in
    let id : (y : Fact) × (Some (id_fact g.0.id) ≡ Some y) × ((id_fact f.0.id).value ≡ y.value) = kept (id_fact f.0.id) (0, omega arith, refl) refl in
    let publisher : (y : Fact) × (Some (fact (codes "publisher") g.0.publisher.text (place_of_name g.0.publisher) classes.Bytes) ≡ Some y) × (name_in r.nodes f.0.publisher.text ≡ y.value) =
    kept (fact (codes "publisher") (name_in r.nodes f.0.publisher.text) (place_of_name f.0.publisher) classes.Bytes) (1, omega arith, refl) refl in
    let size : (y : Fact) × (Some (number_fact (codes "size") g.0.size classes.Bytes) ≡ Some y) × (decimal f.0.size.value ≡ y.value) =
    kept (number_fact (codes "size") f.0.size classes.Bytes) (2, omega arith, refl) refl in
    let model : (y : Fact) × (Some (fact (codes "model") (model_text g.1) (place_of_name g.0.name) classes.Bytes) ≡ Some y) × (model_text f.1 ≡ y.value) =
    kept (fact (codes "model") (model_text f.1) (place_of_name f.0.name) classes.Bytes) (3, omega arith, refl) refl in
    record {
      name = name;
      id = sym (id-same f.0.id g.0.id f_id g_id (id.2 ∙ sym (ap (λ (y : Fact). y.value) (some-same (id_fact g.0.id) id.0 id.1))));
      size = sym (decimal_injective f.0.size.value g.0.size.value (omega arith) (omega arith)
          (size.2 ∙ sym (ap (λ (y : Fact). y.value) (some-same (number_fact (codes "size") g.0.size classes.Bytes) size.0 size.1))));
      publisher = ap (λ (y : Fact). y.value) (some-same (fact (codes "publisher") g.0.publisher.text (place_of_name g.0.publisher) classes.Bytes) publisher.0 publisher.1) ∙ sym publisher.2;
      model = model-same g.1 f.1 (ap (λ (y : Fact). y.value) (some-same (fact (codes "model") (model_text g.1) (place_of_name g.0.name) classes.Bytes) model.0 model.1) ∙ sym model.2);
      places = λ k d lt. place-kept old new f g (get_or f.0.placed k d) (contained-at f.0.placed k d lt) (f_offsets k d lt) g_offsets kept;
    }

-- the first of a pair
zip-first : {X Y : Type 0} (xs : List X) (ys : List Y) (p : X × Y) → Contains (zip xs ys) p → Contains xs p.0
zip-first [] ys p (k, lt, e) = absurd (omega arith)
zip-first (x ∷ xs) [] p (k, lt, e) = absurd (omega arith)
zip-first {X} {Y} (x ∷ xs) (y ∷ ys) p (zero, lt, e) = (0, omega arith, ap (λ (q : X × Y). q.0) e)
zip-first (x ∷ xs) (y ∷ ys) p (suc k, lt, e) = contained-later x xs p.0 (zip-first xs ys p (k, omega arith, e))

abbrev frame_of : ComparedData → RenamesData → Frame × SumKind → Thing
frame_of d r f = frame_thing d.description r f.0 f.1

frames-kept : (old new : ComparedData) → HasShortNumbers old → HasShortNumbers new → Silent classes.Bytes (kind_differences (frame_things old (all_renames old new)) (frame_things new no_renames))
    → (f : Frame × SumKind) → Contains (modelled_frames old) f → (g : Frame × SumKind) × Contains (modelled_frames new) g × KeepsFrame (all_renames old new) f g
frames-kept old new old_short new_short silent f c =
    let r : RenamesData = all_renames old new in
    let o : Thing = frame_of old r f in
    let kept : (n : Thing) × Contains (frame_things new no_renames) n × (n.new_name ≡ o.new_name) × Silent classes.Bytes (thing_differences o n) =
    kept-thing classes.Bytes (frame_things old r) (frame_things new no_renames) o silent (contained-mapped (frame_of old r) (modelled_frames old) f c) refl in
    let other : (g : Frame × SumKind) × Contains (modelled_frames new) g × (frame_of new no_renames g ≡ kept.0) = mapped-from (frame_of new no_renames) (modelled_frames new) kept.0 kept.1 in
    let g : Frame × SumKind = other.0 in
    let silent_here : Silent classes.Bytes (thing_differences o (frame_of new no_renames g)) = subst (λ (n : Thing). Silent classes.Bytes (thing_differences o n)) (sym other.2) kept.3 in
    let in_old : Contains old.description.frames f.0 = zip-first old.description.frames (map (λ f. f.model) old.cluster.frames) f c in
    let in_new : Contains new.description.frames g.0 = zip-first new.description.frames (map (λ f. f.model) new.cluster.frames) g other.1 in (
      g,
      other.1,
      frame-kept old new f g
          (holds-of (λ (f : Frame). f.id.value < 256) old.description.frames f.0 old_short.ids in_old)
          (holds-of (λ (f : Frame). f.id.value < 256) new.description.frames g.0 new_short.ids in_new)
          (holds-of (λ (f : Frame). f.size.value < 2 ^ 32) old.description.frames f.0 old_short.sizes in_old)
          (holds-of (λ (f : Frame). f.size.value < 2 ^ 32) new.description.frames g.0 new_short.sizes in_new)
          (holds-of (λ (f : Frame). All (λ p. p.offset.value < 2 ^ 32) f.placed) old.description.frames f.0 old_short.offsets in_old)
          (holds-of (λ (f : Frame). All (λ p. p.offset.value < 2 ^ 32) f.placed) new.description.frames g.0 new_short.offsets in_new)
          (ap (λ (t : Thing). t.new_name) other.2 ∙ kept.2)
          (λ x in_facts of_class. kept-fact classes.Bytes o (frame_of new no_renames g) x silent_here in_facts of_class),
    )

-- ---- signals

found-behind : (key : List ℕ) (fs more : List Fact) (f : Fact) → fact_with key fs ≡ Some f → fact_with key (fs ++ more) ≡ Some f
found-behind key fs more f e = find-append (λ (g : Fact). bytes_eq g.key key) fs more ∙ ap (λ o. option_or o (fact_with key more)) e

initial-by : (i : Init) (fs : List Fact) → fact_with (codes "initial") (initial_fact i ∷ fs) ≡ Some (initial_fact i)
initial-by (Scalar n) fs = refl
initial-by (Array place ns) fs = refl

initial-class : (i : Init) → (initial_fact i).class ≡ classes.Bytes
initial-class (Scalar n) = refl
initial-class (Array place ns) = refl

initial-key : (i : Init) → (initial_fact i).key ≡ codes "initial"
initial-key (Scalar n) = refl
initial-key (Array place ns) = refl

one-more-found : (b : Bool) (key : List ℕ) (fs more : List Fact) (f : Fact) → fact_with key fs ≡ Some f → fact_with key (cond b fs (fs ++ more)) ≡ Some f
one-more-found true key fs more f e = e
one-more-found false key fs more f e = found-behind key fs more f e

-- a fact before the subscribers
subscribers-found : (r : RenamesData) (key : List ℕ) (fs : List Fact) (subscribers : List Name) (f : Fact) → fact_with key fs ≡ Some f → fact_with key (fold (with_subscriber r) fs subscribers) ≡ Some f
subscribers-found r key fs [] f e = e
subscribers-found r key fs (n ∷ ns) f e =
    let name : List ℕ = name_in r.nodes n.text in
    subscribers-found r key (with_subscriber r fs n) ns f
    (one-more-found (list_any (is_subscriber name) fs) key fs (fact (with_spaces (codes "subscriber" ∷ name ∷ [])) name (place_of_name n) classes.Compatible ∷ []) f e)

value-found : (d : ComparedData) (r : RenamesData) (s : Signal) (key : List ℕ) (f : Fact) → fact_with key (value_facts r s) ≡ Some f → fact_with key (facts_of_signal d r s) ≡ Some f
value-found d r s key f e =
    found-behind key (fold (with_subscriber r) (value_facts r s) s.subscribers) (encoding_facts r s (encoding_of d.codings s)) f (subscribers-found r key (value_facts r s) s.subscribers f e)

initial-found : (r : RenamesData) (s : Signal) → fact_with (codes "initial") (value_facts r s) ≡ Some (initial_fact s.init)
initial-found r s = initial-by s.init (fact (codes "publisher") (name_in r.nodes s.publisher.text) (place_of_name s.publisher) classes.Bytes ∷ [])

signals-kept : (old new : ComparedData) → Silent classes.Bytes (kind_differences (map (signal_thing old (all_renames old new)) old.description.signals) (map (signal_thing new no_renames) new.description.signals))
    → (s : Signal) → Contains old.description.signals s → (t : Signal) × Contains new.description.signals t × KeepsSignal (all_renames old new) s t
signals-kept old new silent s c =
    let r : RenamesData = all_renames old new in
    let o : Thing = signal_thing old r s in
    let kept : (n : Thing) × Contains (map (signal_thing new no_renames) new.description.signals) n × (n.new_name ≡ o.new_name) × Silent classes.Bytes (thing_differences o n) =
    kept-thing classes.Bytes (map (signal_thing old r) old.description.signals) (map (signal_thing new no_renames) new.description.signals) o silent (contained-mapped (signal_thing old r) old.description.signals s c) refl in
    let other : (t : Signal) × Contains new.description.signals t × (signal_thing new no_renames t ≡ kept.0) = mapped-from (signal_thing new no_renames) new.description.signals kept.0 kept.1 in
    let t : Signal = other.0 in
    let silent_here : Silent classes.Bytes (thing_differences o (signal_thing new no_renames t)) = subst (λ (n : Thing). Silent classes.Bytes (thing_differences o n)) (sym other.2) kept.3 in
    let old_size : Fact = fact (codes "size") (size_text s) (place_of_number s.size) classes.Bytes in
    let new_size : Fact = fact (codes "size") (size_text t) (place_of_number t.size) classes.Bytes in
    let size : (y : Fact) × (fact_with (codes "size") (facts_of_signal new no_renames t) ≡ Some y) × (size_text s ≡ y.value) =
    kept-fact classes.Bytes o (signal_thing new no_renames t) old_size silent_here (found-is (λ (f : Fact). f.key) (codes "size") (facts_of_signal old r s) old_size (value-found old r s (codes "size") old_size refl)).0 refl in
    let initial : (y : Fact) × (fact_with (initial_fact s.init).key (facts_of_signal new no_renames t) ≡ Some y) × ((initial_fact s.init).value ≡ y.value) =
    kept-fact classes.Bytes o (signal_thing new no_renames t) (initial_fact s.init) silent_here
    (found-is (λ (f : Fact). f.key) (codes "initial") (facts_of_signal old r s) (initial_fact s.init) (value-found old r s (codes "initial") (initial_fact s.init) (initial-found r s))).0 (initial-class s.init) in (
      t,
      other.1,
      record {
        name = ap (λ (n : Thing). n.new_name) other.2 ∙ kept.2;
        size = ap (λ (y : Fact). y.value) (some-same new_size size.0 (sym (value-found new no_renames t (codes "size") new_size refl) ∙ size.1)) ∙ sym size.2;
        initial = ap (λ (y : Fact). y.value) (some-same (initial_fact t.init) initial.0
            (sym (value-found new no_renames t (codes "initial") (initial_fact t.init) (initial-found no_renames t)) ∙ ap (λ k. fact_with k (facts_of_signal new no_renames t)) (sym (initial-key s.init)) ∙ initial.1)) ∙ sym initial.2;
      },
    )

pub silence-keeps-bytes : SilenceKeepsBytes
silence-keeps-bytes old new old_short new_short silent =
    let r : RenamesData = all_renames old new in
    let olds : List (List Thing) = all_things old r in
    let news : List (List Thing) = all_things new no_renames in
    let all : Silent classes.Bytes (all_differences olds news) = silent-here classes.Bytes (all_differences olds news) silent in (
      λ k d lt. frames-kept old new old_short new_short
          (silent-kind classes.Bytes olds news (frame_things old r) (frame_things new no_renames) all (3, omega arith, refl))
          (get_or (modelled_frames old) k d) (contained-at (modelled_frames old) k d lt),
      λ k d lt. signals-kept old new
          (silent-kind classes.Bytes olds news (map (signal_thing old r) old.description.signals) (map (signal_thing new no_renames) new.description.signals) all (2, omega arith, refl))
          (get_or old.description.signals k d) (contained-at old.description.signals k d lt),
    )

-- ---- schedule tables

append-from : {X : Type 0} (xs ys : List X) (x : X) → Contains (xs ++ ys) x → Contains xs x ⊎ Contains ys x
append-from [] ys x c = inr c
append-from (y ∷ xs) ys x (zero, lt, e) = inl (0, omega arith, e)
append-from {X} (y ∷ xs) ys x (suc k, lt, e) = elim (append-from xs ys x (k, omega arith, e)) as (λ _. Contains (y ∷ xs) x ⊎ Contains ys x) [
  | inl here ↦ inl (contained-later y xs x here)
  | inr there ↦ inr there
]

one-time : (b : Bool) (e d : DifferenceData) → e.class ≡ classes.Timing → Contains (cond b (e ∷ []) []) d → d.class ≡ classes.Timing
one-time true e d is (zero, lt, at) = ap (λ (x : DifferenceData). x.class) (sym at) ∙ is
one-time true e d is (suc k, lt, at) = absurd (omega arith)
one-time false e d is (k, lt, at) = absurd (omega arith)

no-time : (b : Bool) (e d : DifferenceData) → e.class ≡ classes.Timing → Contains (cond b [] (e ∷ [])) d → d.class ≡ classes.Timing
no-time true e d is (k, lt, at) = absurd (omega arith)
no-time false e d is (zero, lt, at) = ap (λ (x : DifferenceData). x.class) (sym at) ∙ is
no-time false e d is (suc k, lt, at) = absurd (omega arith)

table-listed : (b : Bool) (t : Thing) → b ≡ false → Contains (cond b [] (t ∷ [])) t
table-listed true t e = absurd cc
table-listed false t e = (0, omega arith, refl)

listed-table : (b : Bool) (t n : Thing) → Contains (cond b [] (t ∷ [])) n → t ≡ n
listed-table true t n (k, lt, at) = absurd (omega arith)
listed-table false t n (zero, lt, at) = at
listed-table false t n (suc k, lt, at) = absurd (omega arith)

pub flat-from : {X Y : Type 0} (f : X → List Y) (xs : List X) (y : Y) → Contains (flat_map f xs) y → (x : X) × Contains xs x × Contains (f x) y
flat-from f [] y (k, lt, e) = absurd (omega arith)
flat-from {X} {Y} f (x ∷ xs) y c =
    elim (append-from (f x) (flat_map f xs) y c) as (λ _. (z : X) × Contains (x ∷ xs) z × Contains (f z) y) [
      | inl here ↦ (x, (0, omega arith, refl), here)
      | inr there ↦ let rest : (z : X) × Contains xs z × Contains (f z) y = flat-from f xs y there in (rest.0, contained-later x xs rest.0 rest.1, rest.2)
    ]

-- differences of entries are those of times
no-times : (ds : List DifferenceData) → Silent classes.Timing ds → ((d : DifferenceData) → Contains ds d → d.class ≡ classes.Timing) → ds ≡ []
no-times [] silent all = refl
no-times (d ∷ ds) silent all = absurd (silent d (0, omega arith, refl) (all d (0, omega arith, refl)))

old-entry-times : (o n : Thing) (e : EntryFact) (d : DifferenceData) → Contains (old_entry o n e) d → d.class ≡ classes.Timing
old-entry-times o n e d c =
    elim (entry_with_id (entry_id e) n.entries) as (λ p. Contains (option_map_or (pair_differences o n (is_moved_in o.entries n.entries e) e) p (entry_difference o n e (Some e) None ∷ [])) d → d.class ≡ classes.Timing) [
      | Some f ↦ λ c. elim (append-from (cond (is_moved_in o.entries n.entries e) (entry_difference o n e (Some e) (Some f) ∷ []) []) (cond (bytes_eq e.delay f.delay) [] (delay_difference o n e f ∷ [])) d c) as (λ _. d.class ≡ classes.Timing) [
        | inl here ↦ one-time (is_moved_in o.entries n.entries e) (entry_difference o n e (Some e) (Some f)) d refl here
        | inr there ↦ no-time (bytes_eq e.delay f.delay) (delay_difference o n e f) d refl there
      ]
      | None ↦ λ c. one-time true (entry_difference o n e (Some e) None) d refl c
    ] c

tables-kept : (old new : ComparedData) → HaveDistinctEntries (table_things old (all_renames old new)) → HaveDistinctEntries (table_things new no_renames)
    → Silent classes.Timing (kind_differences (table_things old (all_renames old new)) (table_things new no_renames))
    → (t : Table × TableLoad) → Contains (loaded_tables old) t → has_dot t.0.name.text ≡ false
    → (u : Table × TableLoad) × Contains (loaded_tables new) u × KeepsTable old new t.0 u.0
tables-kept old new old_told new_told silent t c dotless =
    let r : RenamesData = all_renames old new in
    let o : Thing = table_thing (name_in r.tables t.0.name.text) t.0 t.1 (table_entries old r t.0) in
    let in_old : Contains (table_things old r) o = contained-flat (λ (t : Table × TableLoad). table_thing_of (lines_in old) r t.0 t.1) (loaded_tables old) t o c (table-listed (has_dot t.0.name.text) o dotless) in
    let kept : (n : Thing) × Contains (table_things new no_renames) n × (n.new_name ≡ o.new_name) × Silent classes.Timing (thing_differences o n) =
    kept-thing classes.Timing (table_things old r) (table_things new no_renames) o silent in_old refl in
    let n : Thing = kept.0 in
    let other : (u : Table × TableLoad) × Contains (loaded_tables new) u × Contains (table_thing_of (lines_in new) no_renames u.0 u.1) n =
    flat-from (λ (u : Table × TableLoad). table_thing_of (lines_in new) no_renames u.0 u.1) (loaded_tables new) n kept.1 in
    let u : Table × TableLoad = other.0 in
    let is : table_thing (name_in no_renames.tables u.0.name.text) u.0 u.1 (table_entries new no_renames u.0) ≡ n =
    listed-table (has_dot u.0.name.text) (table_thing (name_in no_renames.tables u.0.name.text) u.0 u.1 (table_entries new no_renames u.0)) n other.2 in
    let names : List DifferenceData = cond (bytes_eq o.name n.name) [] (thing_difference classes.Names o.kind (Some o) (Some n) ∷ []) in
    let olds : List DifferenceData = flat_map (old_entry o n) o.entries in
    let news : List DifferenceData = flat_map (new_entry o n) n.entries in
    let old_silent : Silent classes.Timing olds = λ d i. kept.3 d (contained-right names _ d (contained-right (flat_map (old_fact o n) o.facts) _ d (contained-right (flat_map (new_fact o n) n.facts) _ d (contained-left olds news d i)))) in
    let new_silent : Silent classes.Timing news = λ d i. kept.3 d (contained-right names _ d (contained-right (flat_map (old_fact o n) o.facts) _ d (contained-right (flat_map (new_fact o n) n.facts) _ d (contained-right olds news d i)))) in
    let no_olds : olds ≡ [] = no-times olds old_silent (λ d i. let e : (e : EntryFact) × Contains o.entries e × Contains (old_entry o n e) d = flat-from (old_entry o n) o.entries d i in old-entry-times o n e.0 d e.2) in
    let no_news : news ≡ [] = no-times news new_silent (λ d i. let e : (e : EntryFact) × Contains n.entries e × Contains (new_entry o n e) d = flat-from (new_entry o n) n.entries d i in no-time (is_some (entry_with_id (entry_id e.0) o.entries)) (entry_difference o n e.0 None (Some e.0)) d refl e.2) in
    let steps : map entry_step o.entries ≡ map entry_step n.entries = entries-same o n
    (apart (map entry_id o.entries) (holds-of (λ t. AreDistinct (map entry_id t.entries)) (table_things old r) o old_told in_old))
    (apart (map entry_id n.entries) (holds-of (λ t. AreDistinct (map entry_id t.entries)) (table_things new no_renames) n new_told kept.1)) no_olds no_news in (
      u,
      other.1,
      record {
        name = ap (λ (t : Thing). t.new_name) is ∙ kept.2;
        entries = steps ∙ ap (λ (t : Thing). map entry_step t.entries) (sym is);
      },
    )

pub silence-keeps-times : SilenceKeepsTimes
silence-keeps-times old new old_told new_told silent =
    let r : RenamesData = all_renames old new in
    let olds : List (List Thing) = all_things old r in
    let news : List (List Thing) = all_things new no_renames in
    let all : Silent classes.Timing (all_differences olds news) = silent-here classes.Timing (all_differences olds news) silent in
    λ k d lt dotless. tables-kept old new old_told new_told
    (silent-kind classes.Timing olds news (table_things old r) (table_things new no_renames) all (6, omega arith, refl))
    (get_or (loaded_tables old) k d) (contained-at (loaded_tables old) k d lt) dotless
