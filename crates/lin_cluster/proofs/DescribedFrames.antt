-- The frames of a description without findings keep the rules of clusters.
use Rattle.std.proofs.Common.{◌≡◌, ◌≢◌, ◌<◌, ◌≤◌, ◌+◌, ◌*◌, ◌%◌, ◌==◌, nat_lt, nat_le, ℕ, Bool, true, false, not, ◌&&◌, ◌||◌, if◌then◌else◌, List, [], ◌∷◌, length, get_or, take, map, Some, None, refl, sym, subst, ap, ◌∙◌, arith}
use Rattle.std.specs.Prelude.{All, AllPairs, IsTrue}
use Rattle.std.specs.List.{list_any, list_all, enumerate_from, AllZip}
use Rattle.std.proofs.lemmas.Bool.{and_parts, and_from, or_parts, ltb-false, leb-true, le-leb, ltb-false, lt-ltb, eqb-true, both_ways}
use Rattle.std.proofs.lemmas.Bool.Decides.{nat_tests}
use Rattle.std.proofs.lemmas.List.{length-map, length-take-le, get_or-take, get_or_default}
use Rattle.std.proofs.lemmas.List.Elements.{All-map}
use Rattle.std.proofs.lemmas.List.Sums.{list_all-from_AllPass}
use Rattle.std.proofs.lemmas.List.Folds.{Any-from_list_any}
use Rattle.std.specs.Option.{option_map_or}
use Rattle.lin_frame.specs.Bits.{has_good_size, lies_in, are_apart, all_apart, is_good_layout, first_bit}
use Rattle.lin_frame.specs.Frame.{pid}
use Rattle.lin_frame.specs.declared.layout.Layout.{Layout}
use Rattle.lin_frame.specs.declared.layout.Place.{Place}
use Rattle.lin_parts.specs.declared.description.Description.{Description}
use Rattle.lin_parts.specs.declared.description.EventFrame.{EventFrame}
use Rattle.lin_parts.specs.declared.description.Frame.{Frame}
use Rattle.lin_parts.specs.declared.description.Name.{Name}
use Rattle.lin_parts.specs.declared.description.PlacedSignal.{PlacedSignal}
use Rattle.lin_parts.specs.declared.description.Signal as declared_signal
use Rattle.lin_parts.specs.Cluster.{nodes}
use Rattle.lin_cluster.specs.Described.{initial_of, described_signal, node_number, signal_number, frame_number, frames_of, is_member, described_place, described_layout, described_frame, parts_of}
use Rattle.lin_cluster.specs.Sizes as sizes
use Rattle.lin_cluster.specs.Overlaps as overlaps
use Rattle.lin_cluster.specs.FindingsNames.{is_node, same_name}
use Rattle.lin_cluster.specs.Members.{is_in_front, has_publisher, differs_from_first}
use Rattle.lin_parts.specs.Rules.{AreFrames, IsSignalAt, is_array, place_at}
use Rattle.lin_parts.specs.declared.parts.Signal.{Signal}
use Rattle.lin_parts.specs.declared.parts.SignalFrame.{SignalFrame}
use Rattle.lin_cluster.proofs.DescribedSignals.{good-size}
use Rattle.lin_cluster.proofs.GoodParts.{GoodSignal, GoodFrame, GoodPlaced, good-signals, good-frames, good-events, the_frame}
use Rattle.lin_cluster.proofs.KnownNames.{no_frame, nodes-count, node-within, node-same, the_signal, signal-at, signal-part, same-signal}
use Rattle.lin_cluster.proofs.NothingElse.{NothingElse}
use Rattle.lin_cluster.proofs.NothingIn.{to-each, none-has, zip-of-maps}
use Rattle.lin_parts.proofs.Pairs.{pairs-first, pairs-rest, pairs-map}

-- a place by its signal
abbrev placed_at : PlacedSignal → declared_signal.Signal → Place
placed_at p s = record { offset = p.offset.value; size = s.size.value; array = is_array (initial_of s.init) }

place-is : (d : Description) (p : PlacedSignal) → signal_number d p.signal < length d.signals → described_place d p ≡ placed_at p (the_signal d p)
place-is d p lt = ap (place_at p.offset.value) (signal-part d p lt)

-- ---- a signal in its frame

the-signal-good : (d : Description) → NothingElse d → (p : PlacedSignal) → signal_number d p.signal < length d.signals → GoodSignal d (the_signal d p)
the-signal-good d none p lt = good-signals d none (signal_number d p.signal) _ lt

inside-parts : (end last : ℕ) (border : Bool) → (nat_lt end last || border) ≡ false → (last ≤ end) × (border ≡ false)
inside-parts end last border e = let parts = or_parts (nat_lt end last) border e in (ltb-false end last parts.0, parts.1)

lies : (first end : ℕ) (p : Place) → has_good_size p ≡ true → first ≤ p.offset → p.offset + p.size ≤ end → lies_in first end p ≡ true
lies first end p size from to =
    and_from (has_good_size p && nat_le first p.offset) (nat_le (p.offset + p.size) end) (and_from (has_good_size p) (nat_le first p.offset) size (le-leb first p.offset from)) (le-leb (p.offset + p.size) end to)

place-lies : (d : Description) → NothingElse d → (f : Frame) (p : PlacedSignal) (first : ℕ) → GoodPlaced d f p → first ≤ p.offset.value → lies_in first (8 * f.size.value) (described_place d p) ≡ true
place-lies d none f p first good from =
    let s = the_signal d p
    in let inside = inside-parts (8 * f.size.value) (p.offset.value + s.size.value) (sizes.is_array_init s.init && not (p.offset.value % 8 == 0)) good.inside
    in subst (λ (q : Place). lies_in first (8 * f.size.value) q ≡ true) (sym (place-is d p good.within))
    (lies first (8 * f.size.value) (placed_at p s) (good-size s.init s.size.value p.offset.value (the-signal-good d none p good.within).size inside.1) from inside.0)

-- a good size is at least one bit
some-bits : (array : Bool) (size : ℕ) → (if array then nat_le 8 size && nat_le size 64 && size % 8 == 0 else nat_le 1 size && nat_le size 16) ≡ true → 1 ≤ size
some-bits true size e = let low = and_parts (nat_le 8 size) (nat_le size 64) (and_parts (nat_le 8 size && nat_le size 64) (size % 8 == 0) e).0 in let h = leb-true 8 size low.0 in omega (arith, h)
some-bits false size e = leb-true 1 size (and_parts (nat_le 1 size) (nat_le size 16) e).0

-- ---- two signals of a frame

no-share : (a m b n : ℕ) → 1 ≤ m → 1 ≤ n → overlaps.share_bit a m b n ≡ false → (nat_le (b + n) a || nat_le (a + m) b) ≡ true
no-share a m b n some other e = grind (arith, nat_tests)

-- an earlier signal, and one after it
record Apart (d : Description) (q p : PlacedSignal) : Type 0 where
  names : same_name q.signal p.signal ≡ false
  places : are_apart (described_place d q) (described_place d p) ≡ true

apart-from : (d : Description) → NothingElse d → (f : Frame) (q p : PlacedSignal) → GoodPlaced d f q → GoodPlaced d f p → overlaps.overlaps_earlier d p (the_signal d p).size.value q ≡ false → Apart d q p
apart-from d none f q p earlier good e =
    let s = the_signal d p
    in let t = the_signal d q
    in let parts = or_parts (same_name q.signal p.signal) _ e
    in let shares : overlaps.share_bit p.offset.value s.size.value q.offset.value t.size.value ≡ false = rw (signal-at d q earlier.within) at parts.1
    in record {
      names = parts.0;
      places = subst (λ (x : Place). are_apart x (described_place d p) ≡ true) (sym (place-is d q earlier.within))
          (subst (λ (y : Place). are_apart (placed_at q t) y ≡ true) (sym (place-is d p good.within))
          (no-share p.offset.value s.size.value q.offset.value t.size.value (some-bits (sizes.is_array_init s.init) s.size.value (the-signal-good d none p good.within).size) (some-bits (sizes.is_array_init t.init) t.size.value (the-signal-good d none q earlier.within).size) shares));
    }

pairs-apart : (d : Description) → NothingElse d → (f : Frame) → GoodFrame d f → AllPairs (Apart d) f.placed
pairs-apart d none f good i j x lt in' =
    let p = get_or f.placed j x
    in let q = get_or f.placed i x
    in let here = good.placed j x in'
    in let overlap : list_any (overlaps.overlaps_earlier d p (the_signal d p).size.value) (take j f.placed) ≡ false = rw (signal-at d p here.within) at (good.apart j x in')
    in let each = none-has (overlaps.overlaps_earlier d p (the_signal d p).size.value) (take j f.placed) overlap
    in let meets : overlaps.overlaps_earlier d p (the_signal d p).size.value (get_or (take j f.placed) i x) ≡ false = each i x (omega (arith, length-take-le j f.placed (omega arith)))
    in apart-from d none f q p (good.placed i x (omega arith)) here (rw (get_or-take j f.placed i x lt) at meets)

all-apart : (xs : List Place) → AllPairs (λ p q. are_apart p q ≡ true) xs → all_apart xs ≡ true
all-apart [] pairs = refl
all-apart (x ∷ xs) pairs =
    and_from (list_all (are_apart x) xs) (all_apart xs)
    (list_all-from_AllPass (are_apart x) xs (pairs-first (λ (p q : Place). are_apart p q ≡ true) x xs pairs))
    (all-apart xs (pairs-rest (λ (p q : Place). are_apart p q ≡ true) x xs pairs))

-- ---- data byte 0 of a frame that an event-triggered frame lists

abbrev frame_at : Description → ℕ → Frame
frame_at d k = get_or d.frames k no_frame

none-in-front : (d : Description) → NothingElse d → (k : ℕ) → is_member d k ≡ true → All (λ p. is_in_front d p ≡ false) (frame_at d k).placed
none-in-front d none k listed =
    let some = Any-from_list_any (λ (e : EventFrame). list_any (λ m. frame_number d m == k) e.members) d.events listed
    in let event = get_or d.events some.0 some.1
    in let good = good-events d none some.0 some.1 some.2
    in let lists : list_any (λ m. frame_number d m == k) event.members ≡ true = subst (λ (e : EventFrame). list_any (λ m. frame_number d m == k) e.members ≡ true) (sym some.3) some.4
    in let one = Any-from_list_any (λ (m : Name). frame_number d m == k) event.members lists
    in let member = get_or event.members one.0 one.1
    in let means : frame_number d member ≡ k = subst (λ (m : Name). frame_number d m ≡ k) (sym one.3) (eqb-true (frame_number d one.1) k one.4)
    in let f = the_frame d member
    in let others = same_name f.publisher d.master || (is_node d f.publisher && list_any (has_publisher d f.publisher) (take one.0 event.members)) || differs_from_first d event.members f
    in let front : list_any (is_in_front d) f.placed ≡ false = (or_parts others (list_any (is_in_front d) f.placed) (good.members one.0 one.1 one.2).passes).1
    in subst (λ n. All (λ p. is_in_front d p ≡ false) (frame_at d n).placed) means (none-has (is_in_front d) (the_frame d member).placed front)

left-false : (a b : Bool) → b ≡ true → (a && b) ≡ false → a ≡ false
left-false true true e h = absurd (cc)
left-false true false e h = absurd (cc)
left-false false b e h = refl

after : (d : Description) → NothingElse d → (p : PlacedSignal) → signal_number d p.signal < length d.signals → is_in_front d p ≡ false → 8 ≤ p.offset.value
after d none p within front =
    let s = the_signal d p
    in let some = some-bits (sizes.is_array_init s.init) s.size.value (the-signal-good d none p within).size
    in let both : (nat_lt p.offset.value 8 && nat_lt 0 s.size.value) ≡ false = rw (signal-at d p within) at front
    in ltb-false p.offset.value 8 (left-false (nat_lt p.offset.value 8) (nat_lt 0 s.size.value) (lt-ltb 0 s.size.value (omega (arith, some))) both)

first-free : (listed : Bool) (own offset : ℕ) → (listed ≡ true → 8 ≤ offset) → option_map_or (λ own. 8) (if listed then Some own else None) 0 ≤ offset
first-free true own offset h = h refl
first-free false own offset h = omega arith

-- ---- the layout, the signals

abbrev layout_of : Description → ℕ → Frame → Layout
layout_of d k f = described_layout d (k, f)

all-lie : (d : Description) → NothingElse d → (k : ℕ) (f : Frame) → GoodFrame d f → (is_member d k ≡ true → All (λ p. is_in_front d p ≡ false) f.placed) → list_all (lies_in (first_bit (layout_of d k f)) (8 * f.size.value)) (map (described_place d) f.placed) ≡ true
all-lie d none k f good front =
    list_all-from_AllPass (lies_in (first_bit (layout_of d k f)) (8 * f.size.value)) (map (described_place d) f.placed)
    (All-map (λ p. lies_in (first_bit (layout_of d k f)) (8 * f.size.value) p ≡ true) (described_place d) f.placed
    (λ i x lt.
    let p = get_or f.placed i x
    in let placed = good.placed i x lt
    in place-lies d none f p (first_bit (layout_of d k f)) placed (first-free (is_member d k) (pid f.id.value) p.offset.value (λ listed. after d none p placed.within (front listed i x lt)))))

layout-good : (d : Description) → NothingElse d → (k : ℕ) (f : Frame) → GoodFrame d f → (is_member d k ≡ true → All (λ p. is_in_front d p ≡ false) f.placed) → is_good_layout (layout_of d k f) ≡ true
layout-good d none k f good front =
    and_from _ (all_apart (map (described_place d) f.placed))
    (and_from (sizes.is_frame_size f.size.value) (list_all (lies_in (first_bit (layout_of d k f)) (8 * f.size.value)) (map (described_place d) f.placed)) good.size (all-lie d none k f good front))
    (all-apart (map (described_place d) f.placed) (pairs-map (λ (p q : Place). are_apart p q ≡ true) (described_place d) f.placed (λ i j x lt in'. (pairs-apart d none f good i j x lt in').places)))

same-publisher : (known published same : Bool) → known ≡ true → published ≡ true → (known && published && not same) ≡ false → same ≡ true
same-publisher true true true k p e = refl
same-publisher true true false k p e = absurd (cc)
same-publisher true false same k p e = absurd (cc)
same-publisher false published same k p e = absurd (cc)

signal-there : (d : Description) → NothingElse d → (f : Frame) → GoodFrame d f → (p : PlacedSignal) → GoodPlaced d f p → IsSignalAt (parts_of d) (node_number d f.publisher) (described_place d p) (signal_number d p.signal)
signal-there d none f good p placed =
    let s = the_signal d p
    in record {
      declared = omega (arith, placed.within, length-map d.signals (described_signal d));
      published = ap (λ (x : Signal). x.publisher) (signal-part d p placed.within)
          ∙ node-same d s.publisher f.publisher (same-publisher (is_node d s.publisher) (is_node d f.publisher) (same_name s.publisher f.publisher) (the-signal-good d none p placed.within).publisher good.publisher placed.publisher);
      place = refl;
    }

signals-once : (d : Description) → NothingElse d → (f : Frame) → GoodFrame d f → AllPairs ◌≢◌ (map (λ (p : PlacedSignal). signal_number d p.signal) f.placed)
signals-once d none f good =
    pairs-map ◌≢◌ (λ (p : PlacedSignal). signal_number d p.signal) f.placed
    (λ i j x lt in' same.
    let q = get_or f.placed i x
    in let p = get_or f.placed j x
    in both_ways (same_name q.signal p.signal) (pairs-apart d none f good i j x lt in').names (same-signal d q p (good.placed i x (omega arith)).within same))

pub each-frame : (d : Description) (P : SignalFrame → Type 0) → ((k : ℕ) (f : Frame) → k < length d.frames → P (described_frame d (k, get_or d.frames k f))) → All P (frames_of d)
each-frame d P each = All-map P (described_frame d) (enumerate_from 0 d.frames) (to-each (λ kf. P (described_frame d kf)) d.frames each)

pub described-frames : (d : Description) → NothingElse d → AreFrames (parts_of d)
described-frames d none =
    let good = good-frames d none
    in record {
      publishers = each-frame d (λ f. f.publisher < nodes (parts_of d)) (λ k f lt. rw (nodes-count d) (node-within d (get_or d.frames k f).publisher (good k f lt).publisher));
      layouts = each-frame d (λ f. IsTrue (is_good_layout f.layout)) (λ k f lt. layout-good d none k (get_or d.frames k f) (good k f lt) (λ listed. subst (λ (g : Frame). All (λ p. is_in_front d p ≡ false) g.placed) (get_or_default d.frames k no_frame f lt) (none-in-front d none k listed)));
      signals = each-frame d (λ f. AllZip (IsSignalAt (parts_of d) f.publisher) f.layout.places f.signals) (λ k f lt.
          let here = get_or d.frames k f
          in zip-of-maps (IsSignalAt (parts_of d) (node_number d here.publisher)) (described_place d) (λ (p : PlacedSignal). signal_number d p.signal) here.placed (λ i p in'. signal-there d none here (good k f lt) (get_or here.placed i p) ((good k f lt).placed i p in')));
      signals_once = each-frame d (λ f. AllPairs ◌≢◌ f.signals) (λ k f lt. signals-once d none (get_or d.frames k f) (good k f lt));
    }
