-- What code reads at the places of a frame, one after another.
use Rattle.std.proofs.Common.{◌≡◌, ◌+◌, ◌<◌, ◌++◌, ℕ, List, length, take, flat_map, get_or, sym, ap, ◌∙◌, arith}
use Rattle.lin_frame.specs.Bits.{unpacked_value}
use Rattle.lin_frame.specs.declared.layout.Place.{Place}
use Rattle.lin_frame.specs.declared.value.Value.{Value}
use Rattle.lin_parts.specs.Cluster.{frame_of}
use Rattle.lin_parts.specs.declared.parts.Parts.{Parts}
use Rattle.lin_core.proofs.slots.ClusterFrames.{FrameIs}
use Rattle.lin_export.specs.ListedFrames.{places}
use Rattle.lin_export.specs.PlacedValues.{placed_value}
use Rattle.lin_export.proofs.Lines.{zip-at, zip-long}
use Rattle.lin_export.proofs.ListedLines.{no_place}
use Rattle.lin_export.proofs.Rows.{texts-more}

-- the signals of a frame, each with its place
abbrev pub places_of : Parts → ℕ → List (ℕ × Place)
places_of x f = places (frame_of x f)

-- what is said of each, by the value in the bytes of a response
abbrev pub said_at : {A : Type 0} → (ℕ → Value → List A) → List ℕ → ℕ × Place → List A
said_at says answer p = says p.0 (unpacked_value p.1 (take 8 answer))

-- what is said of one place more
pub said-more : {A : Type 0} (says : ℕ → Value → List A) (answer : List ℕ) (ps : List (ℕ × Place)) (i : ℕ) (v : ℕ × Value) → i < length ps → v ≡ placed_value answer (get_or ps i (0, no_place))
    → flat_map (said_at says answer) (take (i + 1) ps) ≡ flat_map (said_at says answer) (take i ps) ++ says v.0 v.1
said-more says answer ps i v inside at =
    texts-more (said_at says answer) ps i (0, no_place) inside
    ∙ ap (λ (w : ℕ × Value). flat_map (said_at says answer) (take i ps) ++ says w.0 w.1) (sym at)

-- what stands at an index of the places
pub record InFrame (x : Parts) (f i : ℕ) : Type 0 where
  pub signals : i < length (frame_of x f).signals
  pub places : i < length (frame_of x f).layout.places
  pub known : get_or (frame_of x f).signals i 0 < length x.signals
  pub at : (none : Place) → get_or (places_of x f) i (0, none) ≡ (get_or (frame_of x f).signals i 0, get_or (frame_of x f).layout.places i none)

pub in-frame : (x : Parts) (f i : ℕ) → FrameIs x f → i < length (places_of x f) → InFrame x f i
in-frame x f i is inside =
    let signals : List ℕ = (frame_of x f).signals in
    let spots : List Place = (frame_of x f).layout.places in
    let same = is.same in
    let count = zip-long signals spots is.same in
    let below : i < length signals = omega arith in
    let under : i < length spots = omega arith in
    record { signals = below; places = under; known = is.known i 0 below; at = λ none. zip-at signals spots i 0 none below under }
