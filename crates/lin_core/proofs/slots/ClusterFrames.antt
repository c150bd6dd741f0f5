-- What every cluster's frames have.
use Rattle.std.proofs.Common.{◌≡◌, ℕ, zero, suc, get_or, ◌<◌, ◌≤◌, Bool, true, false, List, [], ◌∷◌, ◌++◌, map, length, refl, ap, sym, subst, arith}
use Rattle.std.specs.Prelude.{Option, Some, None, IfSome, IsTrue, All, find, if◌then◌else◌, ◌&&◌}
use Rattle.std.specs.List.{AllZip}
use Rattle.std.proofs.lemmas.List.Elements.{All-get_or}
use Rattle.lin_frame.specs.Bits.{all_fit, fits_place, is_good_layout}
use Rattle.lin_frame.specs.declared.layout.Place.{Place}
use Rattle.lin_frame.specs.declared.value.Value.{Value}
use Rattle.lin_frame.specs.declared.value.Value.TheVariants.{Scalar, Bytes}
use Rattle.lin_parts.specs.Cluster.{signal_of, frame_of, sporadic_of, event_of}
use Rattle.lin_parts.specs.Rules.{place_at, IsCluster, IsCommanders, IsResponders, IsSignalAt}
use Rattle.lin_parts.specs.declared.parts.EventFrame.{EventFrame}
use Rattle.lin_parts.specs.declared.parts.SignalFrame.{SignalFrame}
use Rattle.lin_parts.specs.declared.parts.SporadicFrame.{SporadicFrame}
use Rattle.lin_parts.specs.declared.parts.Parts.{Parts}
use Rattle.lin_frame.specs.declared.sums.SumKind.TheVariants.{Enhanced}
use Rattle.lin_parts.specs.declared.parts.Signal.{Signal}

-- the signal and the frames of numbers out of range
abbrev pub no_signal : Signal
no_signal = record { name = []; publisher = 0; subscribers = []; size = 1; initial = Scalar 0 }

abbrev pub no_value : Value
no_value = Scalar 0

abbrev pub no_frame : SignalFrame
no_frame = record { name = []; pid = 0x80; model = Enhanced; publisher = 0; layout = record { len = 1; pid = None; places = [] }; signals = [] }

abbrev pub no_sporadic : SporadicFrame
no_sporadic = record { name = []; frames = [] }

abbrev pub no_event : EventFrame
no_event = record { name = []; pid = 0x80; model = Enhanced; table = 0; frames = [] }

pub all-weaken : {X : Type 0} (P Q : X → Type 0) (xs : List X) → ((x : X) → P x → Q x) → All P xs → All Q xs
all-weaken P Q xs f a = λ k d l. f _ (a k d l)

pub all-first : {X : Type 0} (P : X → Type 0) (x : X) (xs : List X) → All P (x ∷ xs) → P x
all-first P x xs a = a 0 x (omega arith)

pub all-rest : {X : Type 0} (P : X → Type 0) (x : X) (xs : List X) → All P (x ∷ xs) → All P xs
all-rest P x xs a = λ k d l. a (suc k) d (omega arith)

all-cons-at : {X : Type 0} (P : X → Type 0) (x : X) (xs : List X) → P x → All P xs → (k : ℕ) (d : X) → k < suc (length xs) → P (get_or (x ∷ xs) k d)
all-cons-at P x xs p a zero d l = p
all-cons-at P x xs p a (suc k) d l = a k d (omega arith)

pub all-cons : {X : Type 0} (P : X → Type 0) (x : X) (xs : List X) → P x → All P xs → All P (x ∷ xs)
all-cons P x xs p a = λ k d l. all-cons-at P x xs p a k d l

pub all-append : {X : Type 0} (P : X → Type 0) (xs : List X) (x : X) → All P xs → P x → All P (xs ++ x ∷ [])
all-append P [] x a p = all-cons P x [] p (λ k d l. absurd (omega arith))
all-append P (y ∷ xs) x a p = all-cons P y (xs ++ x ∷ []) (all-first P y xs a) (all-append P xs x (all-rest P y xs a) p)

-- an item after the list's end is the one that is given for it
pub index-past : {X : Type 0} (xs : List X) (i : ℕ) (d : X) → length xs ≤ i → get_or xs i d ≡ d
index-past [] i d l = refl
index-past (x ∷ xs) zero d l = absurd (omega arith)
index-past (x ∷ xs) (suc i) d l = index-past xs i d (omega arith)

-- what a search finds is one of the list
found-if : {X : Type 0} (P : X → Type 0) (b : Bool) (x : X) (o : Option X) → P x → IfSome o P → IfSome (if b then Some x else o) P
found-if P true x o p q = p
found-if P false x o p q = q

pub if-found : {X : Type 0} (P : X → Type 0) (p : X → Bool) (xs : List X) → All P xs → IfSome (find p xs) P
if-found P p [] a = tt
if-found P p (x ∷ xs) a = found-if P (p x) x (find p xs) (all-first P x xs a) (if-found P p xs (all-rest P x xs a))

-- the frames of a sporadic frame, and those of an event-triggered one
pub sporadic-there : (c : Parts) (k : ℕ) → IsCluster c → k < length c.sporadic → All (λ f. f < length c.frames) (sporadic_of c k)
sporadic-there c k rules l = all-weaken (IsCommanders c) (λ f. f < length c.frames) (sporadic_of c k) (λ f p. p.0) (All-get_or (λ (s : SporadicFrame). All (IsCommanders c) s.frames) c.sporadic k no_sporadic l rules.sporadic.frames)

pub event-there : (c : Parts) (e : ℕ) → IsCluster c → e < length c.events → All (λ f. f < length c.frames) (event_of c e).frames
event-there c e rules l =
    all-weaken (IsResponders c) (λ f. f < length c.frames) (event_of c e).frames (λ f p. p.0) (All-get_or (λ (x : EventFrame). All (IsResponders c) x.frames) c.events e no_event l rules.events.frames)

-- the places and the signals of a frame
zip-known : (c : Parts) (publisher : ℕ) (ps : List Place) (ss : List ℕ) → AllZip (IsSignalAt c publisher) ps ss → All (λ s. s < length c.signals) ss
zip-known c publisher [] [] z = λ k d l. absurd (omega arith)
zip-known c publisher [] (s ∷ ss) z = absurd z
zip-known c publisher (p ∷ ps) [] z = absurd z
zip-known c publisher (p ∷ ps) (s ∷ ss) z = all-cons (λ s. s < length c.signals) s ss z.0.declared (zip-known c publisher ps ss z.1)

zip-long : (c : Parts) (publisher : ℕ) (ps : List Place) (ss : List ℕ) → AllZip (IsSignalAt c publisher) ps ss → length ss ≡ length ps
zip-long c publisher [] [] z = refl
zip-long c publisher [] (s ∷ ss) z = absurd z
zip-long c publisher (p ∷ ps) [] z = absurd z
zip-long c publisher (p ∷ ps) (s ∷ ss) z = let e = zip-long c publisher ps ss z.1 in omega arith

fits-anywhere : (p q : Place) (v : Value) → p.size ≡ q.size → p.array ≡ q.array → fits_place p v ≡ fits_place q v
fits-anywhere p q (Scalar x) s a = rw (s, a) refl
fits-anywhere p q (Bytes xs) s a = rw (s, a) refl

and-both : (a b : Bool) → IsTrue a → IsTrue b → IsTrue (a && b)
and-both true b p q = q
and-both false b p q = p

zip-fits : (c : Parts) (publisher : ℕ) (g : ℕ → Value) (ps : List Place) (ss : List ℕ) → AllZip (IsSignalAt c publisher) ps ss → ((s : ℕ) → s < length c.signals → IsTrue (fits_place (place_at 0 (signal_of c s)) (g s)))
    → IsTrue (all_fit ps (map g ss))
zip-fits c publisher g [] [] z fits = refl
zip-fits c publisher g [] (s ∷ ss) z fits = absurd z
zip-fits c publisher g (p ∷ ps) [] z fits = absurd z
zip-fits c publisher g (p ∷ ps) (s ∷ ss) z fits =
    let own : IsTrue (fits_place (place_at 0 (signal_of c s)) (g s)) = fits s z.0.declared
    in let at : p ≡ place_at p.offset (signal_of c s) = z.0.place
    in and-both (fits_place p (g s)) (all_fit ps (map g ss))
    (subst IsTrue (fits-anywhere (place_at 0 (signal_of c s)) p (g s) (sym (ap (λ (q : Place). q.size) at)) (sym (ap (λ (q : Place). q.array) at))) own) (zip-fits c publisher g ps ss z.1 fits)

pub record FrameIs (c : Parts) (f : ℕ) : Type 0 where
  pub good : IsTrue (is_good_layout (frame_of c f).layout)
  pub known : All (λ s. s < length c.signals) (frame_of c f).signals
  pub same : length (frame_of c f).signals ≡ length (frame_of c f).layout.places
  pub fits : (g : ℕ → Value) → ((s : ℕ) → s < length c.signals → IsTrue (fits_place (place_at 0 (signal_of c s)) (g s))) → IsTrue (all_fit (frame_of c f).layout.places (map g (frame_of c f).signals))

pub frame-is : (c : Parts) (f : ℕ) → IsCluster c → f < length c.frames → FrameIs c f
frame-is c f rules l =
    let z : AllZip (IsSignalAt c (frame_of c f).publisher) (frame_of c f).layout.places (frame_of c f).signals
    = All-get_or (λ (x : SignalFrame). AllZip (IsSignalAt c x.publisher) x.layout.places x.signals) c.frames f no_frame l rules.frames.signals
    in record {
      good = All-get_or (λ (x : SignalFrame). IsTrue (is_good_layout x.layout)) c.frames f no_frame l rules.frames.layouts;
      known = zip-known c (frame_of c f).publisher (frame_of c f).layout.places (frame_of c f).signals z;
      same = zip-long c (frame_of c f).publisher (frame_of c f).layout.places (frame_of c f).signals z;
      fits = λ g fits. zip-fits c (frame_of c f).publisher g (frame_of c f).layout.places (frame_of c f).signals z fits;
    }
