-- What is known by facts that were worked out once.
use Rattle.std.proofs.Common.{◌≡◌, ℕ, Bool, true, false, List, ◌++◌, take, refl, ap, subst, ◌∙◌, ◌⊎◌}
use Rattle.std.specs.Prelude.{◌↔◌, Option, Some, None, is_some, is_none, IsSome, not, ◌==◌, ◌&&◌, ◌||◌, slice_get, option_and_then, if◌then◌else◌}
use Rattle.std.specs.List.{list_any}
use Rattle.std.specs.Option.{option_map, option_map_or, option_or}
use Rattle.lin_frame.specs.declared.sums.SumKind.{SumKind}
use Rattle.lin_cluster.specs.Findings.{in_event_member, in_sporadic_member}
use Rattle.lin_cluster.specs.Places.{wrong_publisher_at, is_outside, outside_at}
use Rattle.lin_cluster.specs.UnknownNames.{unknown_signal}
use Rattle.lin_cluster.specs.FindingsMembers.{is_bad_after, is_wrong_after, is_mixed_after, in_member_after}
use Rattle.lin_cluster.specs.FindingsNames.{when, at_name, at_number, is_any_frame, signal_named, frame_named}
use Rattle.lin_cluster.specs.FindingsNodes.{number_of_node, is_node_number, is_responder_number, are_two}
use Rattle.lin_cluster.specs.FindingsPlaces.{is_outside_by, in_placed_by}
use Rattle.lin_cluster.specs.Members.{is_in_front, is_bad_member, is_wrong_member}
use Rattle.lin_cluster.specs.Slots.{needed_size}
use Rattle.lin_cluster.specs.Known.{signal_facts, frame_facts, size_named}
use Rattle.lin_cluster.specs.Models.{frame_model, model_named, first_model, differ}
use Rattle.lin_cluster.specs.declared.finding.Finding.{Finding}
use Rattle.lin_cluster.specs.declared.finding.FindingKind.TheVariants.{UnknownName, WrongPublisher, SignalOutside, BadEventFrame, BadSporadic, MixedChecksum}
use Rattle.lin_cluster.specs.declared.findings.facts.FrameFacts.{FrameFacts}
use Rattle.lin_cluster.specs.declared.findings.facts.SignalFacts.{SignalFacts}
use Rattle.lin_parts.specs.declared.description.Description.{Description}
use Rattle.lin_parts.specs.declared.description.Frame.{Frame}
use Rattle.lin_parts.specs.declared.description.Name.{Name}
use Rattle.lin_parts.specs.declared.description.PlacedSignal.{PlacedSignal}
use Rattle.lin_parts.specs.declared.description.Signal.{Signal}
use Rattle.lin_cluster.proofs.FindingsNodes.{publishes, published-same, commanders, no-commander, wrong-by}

-- ---- tests of what is made of something

pub made_test : {A V : Type 0} (f : A → V) (t : V → Bool) (o : Option A) (v : V) → Some v ≡ option_map f o → t v ≡ option_map_or (λ x. t (f x)) o false
made_test f t (Some x) v h = ap (λ m. option_map_or t m false) h
made_test f t None v h = absurd (cc)

pub made_untested : {A V : Type 0} (f : A → V) (t : A → Bool) (o : Option A) → None ≡ option_map f o → false ≡ option_map_or t o false
made_untested f t (Some x) h = absurd (cc)
made_untested f t None h = refl

pub map_or_made : {A V : Type 0} (f : A → V) (t : V → Bool) (o : Option A) (b : Bool) → option_map_or t (option_map f o) b ≡ option_map_or (λ x. t (f x)) o b
map_or_made f t (Some x) b = refl
map_or_made f t None b = refl

pub knows_made : {A V : Type 0} (f : A → V) (t : V → Bool) (o : Option A) → option_map_or t (option_map f o) false ≡ option_map_or (λ x. t (f x)) o false
knows_made f t o = map_or_made f t o false

pub some-made : {A V : Type 0} (f : A → V) (o : Option A) → IsSome (option_map f o) → is_some o ≡ true
some-made f (Some x) h = refl
some-made f None h = h

value_made : {A V : Type 0} (f : A → V) (x : A) (v : V) → Some v ≡ option_map f (Some x) → v ≡ f x
value_made f x v h = ap (λ m. option_map_or (λ y. y) m v) h

-- ---- a signal in a frame

placed_by : (d : Description) (publisher : Option ℕ) (f : Frame) (p : PlacedSignal) (a b c : Finding) (o : Option Signal)
    → when (is_none (option_map (signal_facts d) o)) a ++ when (option_map_or (λ s. are_two s.publisher publisher) (option_map (signal_facts d) o) false) b ++ when (option_map_or (is_outside_by f p) (option_map (signal_facts d) o) false) c
    ≡ when (is_none o) a ++ when (option_map_or (λ s. are_two (number_of_node d s.publisher) publisher) o false) b ++ when (option_map_or (is_outside f p) o false) c
placed_by d publisher f p a b c (Some x) = refl
placed_by d publisher f p a b c None = refl

pub placed_same : (d : Description) (f : Frame) (p : PlacedSignal) (publisher : Option ℕ) (m : Option SignalFacts) → m ≡ option_map (signal_facts d) (signal_named d p.signal) → publisher ≡ number_of_node d f.publisher
    → in_placed_by f publisher p m ≡ unknown_signal d p ++ wrong_publisher_at d f p ++ outside_at d f p
placed_same d f p publisher m here by =
    (λ i. in_placed_by f (by i) p (here i))
    ∙ placed_by d (number_of_node d f.publisher) f p (at_name UnknownName p.signal) (at_name WrongPublisher p.signal) (at_number SignalOutside p.offset) (signal_named d p.signal)
    ∙ (λ i. unknown_signal d p ++ wrong-by d f i p ++ outside_at d f p)

-- tests of its size
pub size_same : (d : Description) (t : ℕ → Bool) (o : Option Signal) (m : Option SignalFacts) → m ≡ option_map (signal_facts d) o → option_map_or (λ s. t s.size) m false ≡ option_map_or (λ s. t s.size.value) o false
size_same d t o m here = ap (λ x. option_map_or (λ s. t s.size) x false) here ∙ knows_made (signal_facts d) (λ s. t s.size) o

pub bits_same : (d : Description) (t : ℕ → Bool) (old new : Type 0) (o : Option Signal) (m : Option SignalFacts) → m ≡ option_map (signal_facts d) o → (new ↔ (old ⊎ (option_map_or (λ s. t s.size) m false ≡ true))) → new ↔ (old ⊎ (option_map_or (λ s. t s.size.value) o false ≡ true))
bits_same d t old new o m here same = subst (λ b. new ↔ (old ⊎ (b ≡ true))) (size_same d t o m here) same

-- ---- members of event-triggered frames

bad_same : (d : Description) (members earlier : List Name) (published : ℕ → Bool) (f : Frame) → ((k : ℕ) → published k ≡ publishes d earlier k)
    → is_bad_after (option_map (frame_facts d) (option_and_then (frame_named d) (slice_get members 0))) published (frame_facts d f) ≡ is_bad_member d members earlier f
bad_same d members earlier published f so = λ i.
    commanders d f.publisher i
    || published-same d earlier published f.publisher so i
    || knows_made (frame_facts d) (λ g. not (g.size == f.size.value)) (option_and_then (frame_named d) (slice_get members 0)) i
    || list_any (is_in_front d) f.placed

wrong_same : (d : Description) (members earlier : List Name) (published : ℕ → Bool) (n : Name) → ((k : ℕ) → published k ≡ publishes d earlier k)
    → is_wrong_after (option_map (frame_facts d) (option_and_then (frame_named d) (slice_get members 0))) published (is_any_frame d n) (option_map (frame_facts d) (frame_named d n)) ≡ is_wrong_member d members earlier n
wrong_same d members earlier published n so =
    let first : Option FrameFacts = option_map (frame_facts d) (option_and_then (frame_named d) (slice_get members 0)) in
    ap (λ b. is_any_frame d n && b) (map_or_made (frame_facts d) (is_bad_after first published) (frame_named d n) true)
    ∙ (λ i. is_any_frame d n && option_map_or (λ f. bad_same d members earlier published f so i) (frame_named d n) true)

model_same : (d : Description) (m : SumKind) (o : Option Frame) → option_map_or (λ g. differ m g.model) (option_map (frame_facts d) o) false ≡ option_map_or (differ m) (option_map (frame_model d) o) false
model_same d m (Some x) = refl
model_same d m None = refl

first_same : (d : Description) (m : SumKind) (o : Option Name) → option_map_or (λ g. differ m g.model) (option_map (frame_facts d) (option_and_then (frame_named d) o)) false ≡ option_map_or (differ m) (option_and_then (model_named d) o) false
first_same d m (Some n) = model_same d m (frame_named d n)
first_same d m None = refl

mixed_by : (d : Description) (members : List Name) (o : Option Frame) → is_mixed_after (option_map (frame_facts d) (option_and_then (frame_named d) (slice_get members 0))) (option_map (frame_facts d) o) ≡ option_map_or (λ model. option_map_or (differ model) (first_model d members) false) (option_map (frame_model d) o) false
mixed_by d members (Some x) = first_same d (frame_model d x) (slice_get members 0)
mixed_by d members None = refl

pub member_same : (d : Description) (members : List Name) (i : ℕ) (n : Name) (first m : Option FrameFacts) (published : ℕ → Bool) (known : Bool)
    → first ≡ option_map (frame_facts d) (option_and_then (frame_named d) (slice_get members 0)) → m ≡ option_map (frame_facts d) (frame_named d n) → known ≡ is_any_frame d n
    → ((k : ℕ) → published k ≡ publishes d (take i members) k) → in_member_after first published known m n ≡ in_event_member d members (i, n)
member_same d members i n first m published known is here there so =
    (λ j. in_member_after (is j) published (there j) (here j) n)
    ∙ (λ j. when (not (is_any_frame d n)) (at_name UnknownName n) ++ when (wrong_same d members (take i members) published n so j) (at_name BadEventFrame n) ++ when (mixed_by d members (frame_named d n) j) (at_name MixedChecksum n))

-- the publisher of a member
pub publisher_same : (d : Description) (q : ℕ) (n : Name) (m : Option FrameFacts) → m ≡ option_map (frame_facts d) (frame_named d n) → option_map_or (λ f. is_node_number q f.publisher) m false ≡ option_map_or (λ g. is_node_number q (number_of_node d g.publisher)) (frame_named d n) false
publisher_same d q n m here = ap (λ o. option_map_or (λ f. is_node_number q f.publisher) o false) here ∙ knows_made (frame_facts d) (λ f. is_node_number q f.publisher) (frame_named d n)

-- ---- members of sporadic frames

pub sporadic_same : (d : Description) (n : Name) (m : Option FrameFacts) (known : Bool) → m ≡ option_map (frame_facts d) (frame_named d n) → known ≡ is_any_frame d n
    → when (not known) (at_name UnknownName n) ++ when (known && option_map_or (λ f. is_responder_number f.publisher) m true) (at_name BadSporadic n) ≡ in_sporadic_member d n
sporadic_same d n m known here there =
    (λ i. when (not (there i)) (at_name UnknownName n) ++ when (there i && option_map_or (λ f. is_responder_number f.publisher) (here i) true) (at_name BadSporadic n))
    ∙ (λ i. when (not (is_any_frame d n)) (at_name UnknownName n) ++ when (is_any_frame d n && map_or_made (frame_facts d) (λ f. is_responder_number f.publisher) (frame_named d n) true i) (at_name BadSporadic n))
    ∙ (λ i. when (not (is_any_frame d n)) (at_name UnknownName n) ++ when (is_any_frame d n && option_map_or (λ f. no-commander d f.publisher i) (frame_named d n) true) (at_name BadSporadic n))

-- ---- slots

sized_by_some : {A B C : Type 0} (f : A → Option ℕ) (g : B → Option ℕ) (h : C → Option ℕ) (a : Option A) (b : Option B) (c : Option C) (v : Option ℕ) → Some v ≡ option_or (option_map f a) (option_or (option_map g b) (option_map h c))
    → ((is_some a || is_some b || is_some c) ≡ true) × (v ≡ (if is_some a then option_and_then f a else if is_some b then option_and_then g b else option_and_then h c))
sized_by_some f g h (Some x) b c v e = (refl, value_made f x v e)
sized_by_some f g h None (Some y) c v e = (refl, value_made g y v e)
sized_by_some f g h None None (Some z) v e = (refl, value_made h z v e)
sized_by_some f g h None None None v e = absurd (cc)

sized_by_none : {A B C : Type 0} (f : A → Option ℕ) (g : B → Option ℕ) (h : C → Option ℕ) (a : Option A) (b : Option B) (c : Option C) → None ≡ option_or (option_map f a) (option_or (option_map g b) (option_map h c))
    → ((is_some a || is_some b || is_some c) ≡ false) × (None ≡ (if is_some a then option_and_then f a else if is_some b then option_and_then g b else option_and_then h c))
sized_by_none f g h (Some x) b c e = absurd (cc)
sized_by_none f g h None (Some y) c e = absurd (cc)
sized_by_none f g h None None (Some z) e = absurd (cc)
sized_by_none f g h None None None e = (refl, refl)

pub sized_some : (d : Description) (n : Name) (v : Option ℕ) → Some v ≡ size_named d n → (is_any_frame d n ≡ true) × (v ≡ needed_size d n)
sized_some d n v e = sized_by_some _ _ _ _ _ _ v e

pub sized_none : (d : Description) (n : Name) → None ≡ size_named d n → (is_any_frame d n ≡ false) × (None ≡ needed_size d n)
sized_none d n e = sized_by_none _ _ _ _ _ _ e
