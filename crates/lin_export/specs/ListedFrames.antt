-- The frames of a cluster and the places of their signals (LIN 2.2A, section 9.2.4), as lines.
use Rattle.std.specs.Prelude.{ℕ, ◌%◌, List, [], ◌∷◌, ◌++◌, length, map, zip, flat_map, codes}
use Rattle.std.specs.Fmt.{decimal}
use Rattle.hex.specs.Hex.{encode_upper}
use Rattle.lin_frame.specs.Words.{numbers}
use Rattle.lin_frame.specs.declared.layout.Place.{Place}
use Rattle.lin_frame.specs.declared.sums.SumKind.{SumKind}
use Rattle.lin_frame.specs.declared.sums.SumKind.TheVariants.{Classic, Enhanced}
use Rattle.lin_parts.specs.Cluster.{event_of, frame_of, named_table, node_of, signal_of}
use Rattle.lin_parts.specs.Cluster.{event_name, frame_name, sporadic_name, sporadic_of}
use Rattle.lin_parts.specs.declared.parts.Parts.{Parts}
use Rattle.lin_parts.specs.declared.parts.SignalFrame.{SignalFrame}
use Rattle.lin_log.specs.CallerTexts.{seen_text}
use Rattle.lin_log.specs.Words.{line, value_word}

-- the identifier in a protected identifier: all but its two parity bits (ISO 17987-3, frame header)
abbrev pub identifier_word : ℕ → List ℕ
identifier_word pid = codes "0x" ++ encode_upper (pid % 64 ∷ [])

abbrev pub model_word : SumKind → List ℕ
model_word Classic = codes "classic"
model_word Enhanced = codes "enhanced"

-- number, name, identifier, protected identifier, data bytes, publisher and checksum model of an
-- unconditional frame
abbrev pub frame_line : Parts → ℕ → List ℕ
frame_line c f =
    line
    (codes "frame"
    ∷ decimal f
    ∷ seen_text (frame_name c f)
    ∷ identifier_word (frame_of c f).pid
    ∷ encode_upper ((frame_of c f).pid ∷ [])
    ∷ decimal (frame_of c f).layout.len
    ∷ seen_text (node_of c (frame_of c f).publisher).name
    ∷ seen_text (model_word (frame_of c f).model)
    ∷ [])

-- the signals of a frame, each with its place
abbrev pub places : SignalFrame → List (ℕ × Place)
places frame = zip frame.signals frame.layout.places

-- a signal of a frame: its first bit, its size in bits, its name and its initial value
abbrev pub place_line : Parts → ℕ → ℕ × Place → List ℕ
place_line c f p =
    line (codes "place" ∷ decimal f ∷ decimal p.1.offset ∷ decimal p.1.size ∷ seen_text (signal_of c p.0).name
    ∷ value_word (signal_of c p.0).initial ∷ [])

abbrev pub frame_lines : Parts → ℕ → List ℕ
frame_lines c f = frame_line c f ++ flat_map (place_line c f) (places (frame_of c f))

abbrev pub member_words : Parts → List ℕ → List (List ℕ)
member_words c frames = map (λ f. seen_text (frame_name c f)) frames

-- a sporadic frame: its frames, the highest in rank first
abbrev pub sporadic_line : Parts → ℕ → List ℕ
sporadic_line c k =
    line (codes "sporadic" ∷ decimal k ∷ seen_text (sporadic_name c k)
    ∷ member_words c (sporadic_of c k))

-- an event-triggered frame: its identifiers, the table that resolves its collisions, and its frames
abbrev pub event_line : Parts → ℕ → List ℕ
event_line c e =
    line
    (codes "event"
    ∷ decimal e
    ∷ seen_text (event_name c e)
    ∷ identifier_word (event_of c e).pid
    ∷ encode_upper ((event_of c e).pid ∷ [])
    ∷ seen_text (named_table c (event_of c e).table).name
    ∷ member_words c (event_of c e).frames)

-- the frames of each kind, by their numbers
abbrev pub frame_listing : Parts → List ℕ
frame_listing c =
    flat_map (frame_lines c) (numbers (length c.frames))
    ++ flat_map (sporadic_line c) (numbers (length c.sporadic))
    ++ flat_map (event_line c) (numbers (length c.events))
