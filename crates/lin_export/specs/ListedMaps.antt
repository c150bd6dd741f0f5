-- Which signal has which bit of the data bytes of a frame, as lines.
use Rattle.std.specs.Prelude.{ℕ, ◌+◌, ◌-◌, ◌*◌, List, [], ◌∷◌, ◌++◌, length, map, flat_map, codes}
use Rattle.std.specs.Fmt.{decimal}
use Rattle.lin_frame.specs.Words.{numbers}
use Rattle.lin_frame.specs.declared.layout.Layout.{Layout}
use Rattle.lin_frame.specs.declared.layout.Place.{Place}
use Rattle.lin_parts.specs.Cluster.{frame_name, frame_of, signal_of}
use Rattle.lin_parts.specs.declared.parts.Parts.{Parts}
use Rattle.lin_log.specs.CallerTexts.{seen_text}
use Rattle.lin_log.specs.Words.{line}
use Rattle.lin_export.specs.ListedFrames.{identifier_word, places}
use Rattle.lin_export.specs.Listing.{numbered_lines}
use Rattle.lin_export.specs.Marks.{bit_mark, free_bits, signal_mark}

-- number, name, identifier, data bytes and free bits of an unconditional frame
abbrev pub map_line : Parts → ℕ → List ℕ
map_line c f =
    line
    (codes "map"
    ∷ decimal f
    ∷ seen_text (frame_name c f)
    ∷ identifier_word (frame_of c f).pid
    ∷ decimal (frame_of c f).layout.len
    ∷ decimal (free_bits (frame_of c f).layout)
    ∷ [])

-- a data byte: the marks of its bits, the most significant bit first
abbrev pub bits_line : Layout → ℕ → ℕ → List ℕ
bits_line layout f byte =
    line
    (codes "bits"
    ∷ decimal f
    ∷ decimal byte
    ∷ map (λ j. bit_mark layout (8 * byte + (7 - j)) ∷ []) (numbers 8))

-- a signal by its number among the places of its frame: its mark, its name, its first bit and its
-- size in bits
abbrev pub mark_line : Parts → ℕ → ℕ → ℕ × Place → List ℕ
mark_line c f k p =
    line
    (codes "mark"
    ∷ decimal f
    ∷ (signal_mark k ∷ [])
    ∷ seen_text (signal_of c p.0).name
    ∷ decimal p.1.offset
    ∷ decimal p.1.size
    ∷ [])

abbrev pub map_lines : Parts → ℕ → List ℕ
map_lines c f =
    map_line c f
    ++ flat_map (bits_line (frame_of c f).layout f) (numbers (frame_of c f).layout.len)
    ++ numbered_lines (mark_line c f) 0 (places (frame_of c f))

-- the unconditional frames, by their numbers
abbrev pub maps : Parts → List ℕ
maps c = flat_map (map_lines c) (numbers (length c.frames))
