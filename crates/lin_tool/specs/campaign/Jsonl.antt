-- The rows of a campaign as objects (JSON, RFC 8259), one a line.
use Rattle.std.specs.Prelude.{ℕ, suc, zero, ◌-◌, List, [], ◌∷◌, ◌++◌, codes, false, true}
use Rattle.std.specs.Prelude.{flat_map, map, take, Option, Some, None}
use Rattle.std.specs.Fmt.{decimal}
use Rattle.std.specs.Option.{option_map_or, option_to_list}
use Rattle.lin_parts.specs.Cluster.{named_table, node_of}
use Rattle.lin_parts.specs.declared.parts.Parts.{Parts}
use Rattle.lin_core.specs.History.{Slot, finished_slot, seen_of}
use Rattle.lin_core.specs.Tables.{cause_word, refusal_word}
use Rattle.lin_core.specs.declared.event.Seen.{Seen}
use Rattle.lin_core.specs.declared.event.Seen.TheVariants.{Silent, NoAnswer, Good, Damaged, Collided}
use Rattle.lin_core.specs.declared.log.LogEntry.{LogEntry}
use Rattle.lin_bench.specs.Texts.{found_text, what_text}
use Rattle.lin_bench.specs.declared.got.Judgement.{Judgement}
use Rattle.lin_export.specs.Csv.{after_comma}
use Rattle.lin_export.specs.Json.{json_array, member, null, object, object_line, printable_text, quoted_text}
use Rattle.lin_export.specs.Track.{finished_slot_count}
use Rattle.lin_tool.specs.Placing.{past_at}
use Rattle.lin_tool.specs.campaign.Checks.{first_checks}
use Rattle.lin_tool.specs.campaign.FaultNames.{fault_text}
use Rattle.lin_tool.specs.campaign.Shown.{RowData}
use Rattle.lin_tool.specs.campaign.Slots.{finished_slots}
use Rattle.lin_tool.specs.campaign.Text.{frame_of_single}
use Rattle.lin_tool.specs.declared.campaign.jsonl_rows.CampaignSize.{CampaignSize}
use Rattle.lin_tool.specs.declared.campaign.row.LostMessage.{LostMessage}
use Rattle.lin_tool.specs.declared.campaign.row.RefusedStep.{RefusedStep}
use Rattle.lin_tool.specs.declared.campaign.row.RowVerdict.{RowVerdict}
use Rattle.lin_tool.specs.declared.campaign.row.RowVerdict.TheVariants.{Tolerated, Broken, Limit}
use Rattle.lin_tool.specs.declared.campaign.singles.Single.{Single}

-- ---- members
abbrev pub decimal_member : List ℕ → ℕ → List ℕ
decimal_member key n = member key (decimal n)

abbrev pub word_member : List ℕ → List ℕ → List ℕ
word_member key text = member key (quoted_text text)

abbrev pub printable_member : List ℕ → List ℕ → List ℕ
printable_member key text = member key (printable_text text)

-- ---- the campaign
-- the last of so many slots, which are counted from 0
abbrev pub last_of : ℕ → List ℕ
last_of zero = null
last_of (suc n) = decimal n

abbrev pub expectation : Parts → List LogEntry → Judgement → List ℕ
expectation c log j =
    object
    (decimal_member (codes "line") j.place.own
    ∷ printable_member (codes "what") (what_text c j.judged)
    ∷ member (codes "slot") (last_of (finished_slot_count (past_at log j.entries)))
    ∷ [])

abbrev pub expectation_objects : Parts → List LogEntry → List Judgement → List (List ℕ)
expectation_objects c log js = map (expectation c log) (first_checks c false js)

-- the object of a campaign of a script of this name, with so many single faults and so many rows, of
-- which this is the undisturbed play
abbrev pub head_object : Parts → List ℕ → ℕ → ℕ → RowData → List ℕ
head_object c script singles rows p =
    object_line (codes "campaign")
    (decimal_member (codes "version") 1
    ∷ printable_member (codes "script") script
    ∷ decimal_member (codes "slots") p.row.slots
    ∷ decimal_member (codes "faults") singles
    ∷ decimal_member (codes "rows") rows
    ∷ member (codes "lines") (json_array (expectation_objects c p.log p.judgements))
    ∷ [])

abbrev pub sized_object : CampaignSize → Parts → RowData → List ℕ
sized_object size c p = head_object c size.script.now size.singles size.rows p

-- ---- a row
abbrev pub single_members : Parts → Option Single → List (List ℕ)
single_members c None =
    member (codes "table") null ∷ member (codes "entry") null ∷ member (codes "frame") null ∷ []
single_members c (Some s) =
    word_member (codes "table") (named_table c s.table).name
    ∷ decimal_member (codes "entry") s.entry
    ∷ word_member (codes "frame") (frame_of_single c s)
    ∷ []

abbrev pub failure_object : Parts → Judgement → List ℕ
failure_object c j =
    object
    (decimal_member (codes "line") j.place.own
    ∷ printable_member (codes "what") (what_text c j.judged)
    ∷ printable_member (codes "got") (option_map_or (λ t. t) (found_text c j.judged) [])
    ∷ [])

abbrev pub failure_objects : Parts → List Judgement → List (List ℕ)
failure_objects c js = map (failure_object c) (first_checks c true js)

abbrev pub loss_object : Parts → LostMessage → List ℕ
loss_object c l =
    object
    (word_member (codes "host") (node_of c l.host).name
    ∷ decimal_member (codes "number") l.number
    ∷ word_member (codes "cause") (cause_word l.cause)
    ∷ [])

abbrev pub refusal_object : RefusedStep → List ℕ
refusal_object r =
    object (decimal_member (codes "line") r.line ∷ word_member (codes "name") (refusal_word r.refusal) ∷ [])

-- a letter for each of the first 1,000 slots
abbrev pub seen_letter : Seen → ℕ
seen_letter Silent = 115
seen_letter NoAnswer = 110
seen_letter (Good bytes) = 103
seen_letter Damaged = 100
seen_letter Collided = 99

abbrev pub slot_letters : List Slot → List ℕ
slot_letters slots = map (λ s. seen_letter (seen_of s)) slots

abbrev pub letters : List LogEntry → List ℕ
letters log = slot_letters (take 1000 (finished_slots log))

-- the letter of the slot that an entry after a history finishes, if it does, after so many letters
abbrev pub next_letter : ℕ → LogEntry → List LogEntry → List ℕ
next_letter count e past = slot_letters (take (1000 - count) (option_to_list (finished_slot e past)))

abbrev pub ended_members : Parts → RowData → List (List ℕ)
ended_members c p =
    member (codes "lost") (json_array (map (loss_object c) p.row.lost))
    ∷ member (codes "refused") (json_array (map refusal_object p.row.refused))
    ∷ decimal_member (codes "slots") p.row.slots
    ∷ decimal_member (codes "time_us") p.row.time_us
    ∷ decimal_member (codes "waiting") p.row.waiting
    ∷ word_member (codes "seen") (letters p.log)
    ∷ []

abbrev pub outcome_members : Parts → List ℕ → RowData → List (List ℕ)
outcome_members c verdict p =
    decimal_member (codes "missed") p.row.missed
    ∷ word_member (codes "verdict") verdict
    ∷ member (codes "unmet") (json_array (failure_objects c p.judgements))
    ∷ ended_members c p

abbrev pub verdict_members : Parts → RowData → RowVerdict → List (List ℕ)
verdict_members c p Tolerated = outcome_members c (codes "tolerated") p
verdict_members c p Broken = outcome_members c (codes "broken") p
verdict_members c p (Limit n) =
    word_member (codes "verdict") (codes "limit") ∷ decimal_member (codes "limit") n ∷ []

abbrev pub verdict_part : Parts → RowData → List ℕ
verdict_part c p = flat_map after_comma (verdict_members c p p.row.verdict)

abbrev pub row_object : Parts → RowData → List ℕ
row_object c p =
    object_line (codes "row")
    (decimal_member (codes "row") p.number
    ∷ member (codes "faults") (json_array (map (λ f. quoted_text (fault_text c f)) p.faults))
    ∷ single_members c p.single ++ verdict_members c p p.row.verdict)
