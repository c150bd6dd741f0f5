-- The identifiers of a description without findings keep the rules of clusters.
use Rattle.std.proofs.Common.{◌≡◌, ◌≢◌, ◌<◌, ◌≤◌, ◌+◌, ◌%◌, ◌==◌, nat_lt, nat_le, ℕ, Bool, true, ◌&&◌, ◌||◌, if◌then◌else◌, List, [], ◌∷◌, ◌++◌, length, get_or, map, Some, None, refl, sym, subst, ap, ◌∙◌, ◌⊎◌, inl, inr, arith}
use Rattle.std.specs.Prelude.{All, AllPairs, count_by}
use Rattle.std.specs.List.{list_any, enumerate_from}
use Rattle.std.proofs.lemmas.Bool.{ltb-false, lt-ltb, le-leb, eq-eqb, and_from, or_left, or_right, cases_lt, cases_order}
use Rattle.std.proofs.lemmas.List.{map-append}
use Rattle.std.proofs.lemmas.List.Elements.{All-map}
use Rattle.lin_frame.specs.Frame.{pid}
use Rattle.lin_parts.specs.declared.description.Description.{Description}
use Rattle.lin_parts.specs.declared.description.EventFrame as declared_event
use Rattle.lin_parts.specs.declared.description.Frame.{Frame}
use Rattle.lin_parts.specs.declared.description.Number.{Number}
use Rattle.lin_cluster.specs.Described.{frame_number, is_member, described_frame, described_event, events_of, parts_of}
use Rattle.lin_cluster.specs.Identifiers.{ids, bad_id, is_up_to, is_repeated, id_twice}
use Rattle.lin_cluster.specs.FindingsNames.{at_number}
use Rattle.lin_parts.specs.Rules.{AreIdentifiers, CarriesSignals, HasOwnPid, is_listed, pids}
use Rattle.lin_parts.specs.declared.parts.EventFrame.{EventFrame}
use Rattle.lin_parts.specs.declared.parts.SignalFrame.{SignalFrame}
use Rattle.lin_cluster.proofs.DescribedFrames.{each-frame}
use Rattle.lin_cluster.proofs.DescribedTables.{frames-count}
use Rattle.lin_cluster.proofs.GoodParts.{good-frames, good-events, small-id}
use Rattle.lin_parts.proofs.Identifiers.{all-carry}
use Rattle.lin_cluster.proofs.KnownNames.{no_frame, frame-part}
use Rattle.lin_cluster.proofs.NothingElse.{NothingElse}
use Rattle.lin_cluster.specs.declared.finding.FindingKind.TheVariants.{BadId, IdTwice}
use Rattle.lin_cluster.proofs.NothingIn.{IsShort, in-each, when-not, any-of-map, two-counted}
use Rattle.lin_parts.proofs.Pairs.{pairs-map}
use Rattle.lin_parts.proofs.SoundClusters.{pid-low}

-- ---- no identifier twice

-- a place up to another, by lines and columns
abbrev up_to : ℕ → ℕ → ℕ → ℕ → Bool
up_to xl xc yl yc = nat_lt yl xl || (yl == xl && nat_le yc xc)

by-line : (xl xc yl yc : ℕ) → yl < xl → up_to xl xc yl yc ≡ true
by-line xl xc yl yc lt = or_left (nat_lt yl xl) (yl == xl && nat_le yc xc) (lt-ltb yl xl lt)

by-column : (xl xc yl yc : ℕ) → yl ≡ xl → yc ≤ xc → up_to xl xc yl yc ≡ true
by-column xl xc yl yc e le = or_right (nat_lt yl xl) (yl == xl && nat_le yc xc) (and_from (yl == xl) (nat_le yc xc) (eq-eqb yl xl e) (le-leb yc xc le))

-- of two places one is up to the other
one-up-to : (xl xc yl yc : ℕ) → (up_to xl xc yl yc ≡ true) ⊎ (up_to yl yc xl xc ≡ true)
one-up-to xl xc yl yc =
    elim (cases_order xl yl) as (λ _. (up_to xl xc yl yc ≡ true) ⊎ (up_to yl yc xl xc ≡ true)) [
      | inl e ↦ elim (cases_lt xc yc) as (λ _. (up_to xl xc yl yc ≡ true) ⊎ (up_to yl yc xl xc ≡ true)) [
        | inl lt ↦ inr (by-column yl yc xl xc e (omega arith))
        | inr le ↦ inl (by-column xl xc yl yc (sym e) le)
      ]
      | inr apart ↦ elim apart as (λ _. (up_to xl xc yl yc ≡ true) ⊎ (up_to yl yc xl xc ≡ true)) [
        | inl lt ↦ inr (by-line yl yc xl xc lt)
        | inr lt ↦ inl (by-line xl xc yl yc lt)
      ]
    ]

abbrev counted : Number → Number → Bool
counted x y = y.value == x.value && is_up_to x y

counts : (x y : Number) → y.value ≡ x.value → is_up_to x y ≡ true → counted x y ≡ true
counts x y same up = and_from (y.value == x.value) (is_up_to x y) (eq-eqb y.value x.value same) up

counts-itself : (x : Number) → counted x x ≡ true
counts-itself x = counts x x refl (by-column x.line x.column x.line x.column refl (omega arith))

once : (d : Description) → NothingElse d → (k : ℕ) (n : Number) → k < length (ids d) → count_by (counted (get_or (ids d) k n)) (ids d) ≤ 1
once d none k n lt =
    let x = get_or (ids d) k n
    in ltb-false 1 (count_by (counted x) (ids d)) (when-not (is_repeated (ids d) x) (at_number IdTwice x) refl (in-each IsShort (id_twice (ids d)) (ids d) none.ids_once k n lt))

ids-apart : (d : Description) → NothingElse d → AllPairs (λ (x y : Number). x.value ≢ y.value) (ids d)
ids-apart d none i j n lt in' same =
    let x = get_or (ids d) i n
    in let y = get_or (ids d) j n
    in let before : i < length (ids d) = omega arith
    in elim (one-up-to x.line x.column y.line y.column) as (λ _. ⊥) [
      | inl up ↦
          let twice : 1 < count_by (counted x) (ids d) = two-counted (counted x) (ids d) i j n lt in' (counts-itself x) (counts x y (sym same) up)
          in let single : count_by (counted x) (ids d) ≤ 1 = once d none i n before
          in omega arith
      | inr up ↦
          let twice : 1 < count_by (counted y) (ids d) = two-counted (counted y) (ids d) i j n lt in' (counts y x same up) (counts-itself y)
          in let single : count_by (counted y) (ids d) ≤ 1 = once d none j n in'
          in omega arith
    ]

-- ---- the protected identifiers

abbrev pid_of : Number → ℕ
pid_of n = pid n.value

frame-pids : (d : Description) (n : ℕ) (fs : List Frame) → map (λ (f : SignalFrame). f.pid) (map (described_frame d) (enumerate_from n fs)) ≡ map pid_of (map (λ (f : Frame). f.id) fs)
frame-pids d n [] = refl
frame-pids d n (f ∷ fs) = ap (λ ps. pid f.id.value ∷ ps) (frame-pids d (n + 1) fs)

event-pids : (d : Description) (es : List declared_event.EventFrame) → map (λ (e : EventFrame). e.pid) (map (described_event d) es) ≡ map pid_of (map (λ (e : declared_event.EventFrame). e.id) es)
event-pids d [] = refl
event-pids d (e ∷ es) = ap (λ ps. pid e.id.value ∷ ps) (event-pids d es)

described-pids : (d : Description) → pids (parts_of d) ≡ map pid_of (ids d)
described-pids d =
    let fs : List Number = map (λ (f : Frame). f.id) d.frames
    in let es : List Number = map (λ (e : declared_event.EventFrame). e.id) d.events
    in ap (λ ps. ps ++ map (λ (e : EventFrame). e.pid) (events_of d)) (frame-pids d 0 d.frames) ∙ (ap (λ ps. map pid_of fs ++ ps) (event-pids d d.events) ∙ sym (map-append pid_of fs es))

one-value : (x y : ℕ) → x < 60 → y < 60 → pid x ≡ pid y → x ≡ y
one-value x y small few same =
    let e : pid x % 64 ≡ pid y % 64 = ap (λ p. p % 64) same
    in sym (pid-low x (omega (arith, small))) ∙ (e ∙ pid-low y (omega (arith, few)))

small-ids : (d : Description) → NothingElse d → All (λ (n : Number). n.value < 60) (ids d)
small-ids d none k n lt = small-id (get_or (ids d) k n).value (when-not _ (at_number BadId (get_or (ids d) k n)) refl (in-each IsShort bad_id (ids d) none.ids k n lt))

pids-apart : (d : Description) → NothingElse d → AllPairs ◌≢◌ (pids (parts_of d))
pids-apart d none =
    subst (λ ps. AllPairs ◌≢◌ ps) (sym (described-pids d))
    (pairs-map ◌≢◌ pid_of (ids d) (λ i j n lt in' same.
    ids-apart d none i j n lt in' (one-value (get_or (ids d) i n).value (get_or (ids d) j n).value (small-ids d none i n (omega arith)) (small-ids d none j n in') same)))

-- ---- data byte 0

any-same : {X : Type 0} (p q : X → Bool) → ((x : X) → p x ≡ q x) → (xs : List X) → list_any p xs ≡ list_any q xs
any-same p q same [] = refl
any-same p q same (x ∷ xs) = ap (λ b. b || list_any p xs) (same x) ∙ ap (λ b. q x || b) (any-same p q same xs)

listed-is : (d : Description) (k : ℕ) → is_listed (parts_of d) k ≡ is_member d k
listed-is d k =
    any-of-map (λ (e : EventFrame). list_any (λ g. g == k) e.frames) (described_event d) d.events
    ∙ any-same (λ (e : declared_event.EventFrame). list_any (λ g. g == k) (map (frame_number d) e.members)) (λ (e : declared_event.EventFrame). list_any (λ m. frame_number d m == k) e.members)
    (λ e. any-of-map (λ g. g == k) (frame_number d) e.members) d.events

own-pid : (d : Description) (k : ℕ) → k < length d.frames → HasOwnPid (parts_of d) k
own-pid d k lt =
    let f = get_or d.frames k no_frame
    in let c = parts_of d
    in subst (λ (g : SignalFrame). g.layout.pid ≡ (if is_listed c k then Some g.pid else None)) (sym (frame-part d k lt))
    (ap (λ b. if b then Some (pid f.id.value) else None) (sym (listed-is d k)))

pub described-identifiers : (d : Description) → NothingElse d → AreIdentifiers (parts_of d)
described-identifiers d none =
    let c = parts_of d
    in record {
      carriers = (all-carry c).0 (
        each-frame d (λ f. CarriesSignals f.pid) (λ k f lt. record { identifier = (get_or d.frames k f).id.value; small = (good-frames d none k f lt).id; protected = refl }),
        All-map (λ (e : EventFrame). CarriesSignals e.pid) (described_event d) d.events (λ k e lt. record { identifier = (get_or d.events k e).id.value; small = (good-events d none k e lt).id; protected = refl }),
      );
      apart = pids-apart d none;
      own_pids = λ k lt. own-pid d k (omega (arith, frames-count d));
    }
