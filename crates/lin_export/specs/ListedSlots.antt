-- How much time the slots of schedule tables leave (ISO 17987-3, frame slots; LIN 2.2A, section
-- 9.2.5), as lines.
use Rattle.std.specs.Prelude.{ℕ, ◌+◌, ◌-◌, ◌*◌, ◌/◌, List, [], ◌∷◌, ◌++◌, length, sum_by}
use Rattle.std.specs.Prelude.{flat_map, codes, nat_le, if◌then◌else◌}
use Rattle.std.specs.Fmt.{decimal}
use Rattle.lin_cluster.specs.SlotTimes.{slot_bytes, slot_need}
use Rattle.lin_frame.specs.Words.{numbers}
use Rattle.lin_parts.specs.Cluster.{entry_kind, entry_name, line_of, named_table, table_of}
use Rattle.lin_parts.specs.declared.parts.Parts.{Parts}
use Rattle.lin_log.specs.CallerTexts.{seen_text}
use Rattle.lin_log.specs.Words.{line}

-- ---- the slot of an entry

-- what is left of a delay, or what is missing after `-`
abbrev pub slack : ℕ → ℕ → List ℕ
slack delay need =
    if nat_le need delay then decimal (delay - need) else 45 ∷ decimal (need - delay)

-- an entry of a table: what it is for, the data bytes of its slot, its delay, what the slot needs,
-- and what is left
abbrev pub slot_line : Parts → ℕ → ℕ → List ℕ
slot_line c t e =
    let entry = (line_of c t e).entry
    in let delay = (line_of c t e).delay_us
    in line
    (codes "slot"
    ∷ decimal t
    ∷ decimal e
    ∷ seen_text (entry_name c entry)
    ∷ seen_text (entry_kind entry)
    ∷ decimal (slot_bytes c entry)
    ∷ decimal delay
    ∷ decimal (slot_need c entry)
    ∷ slack delay (slot_need c entry)
    ∷ [])

-- ---- the load of a table

-- the time in microseconds of one round
abbrev pub delay_of : Parts → ℕ → ℕ
delay_of c t = sum_by (λ l. l.delay_us) (table_of c t)

-- 34 bits of header and 10 for each data byte and the checksum
abbrev pub nominal_bits : ℕ → ℕ
nominal_bits bytes = 44 + 10 * bytes

-- the bits of one round, each slot with its longest frame
abbrev pub bits_of : Parts → ℕ → ℕ
bits_of c t = sum_by (λ l. nominal_bits (slot_bytes c l.entry)) (table_of c t)

-- how many thousandths of a time in microseconds so many bits take at a speed in bits per second
abbrev pub permille : ℕ → ℕ → ℕ → ℕ
permille bits speed delay = 1000000000 * bits / (speed * delay)

abbrev pub load_line : Parts → ℕ → List ℕ
load_line c t =
    line (codes "load" ∷ decimal t ∷ seen_text (named_table c t).name ∷ decimal (delay_of c t)
    ∷ decimal (permille (bits_of c t) c.speed (delay_of c t)) ∷ [])

-- ---- all tables

abbrev pub table_lines : Parts → ℕ → List ℕ
table_lines c t =
    flat_map (slot_line c t) (numbers (length (table_of c t))) ++ load_line c t

abbrev pub slots : Parts → List ℕ
slots c = flat_map (table_lines c) (numbers (length c.tables))
